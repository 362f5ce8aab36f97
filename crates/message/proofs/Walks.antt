-- The parts of a recording, one after the other.
use Rattle.std.proofs.Common.{◌≡◌, ℕ, ◌+◌, ◌-◌, ◌*◌, min, List, [], ◌∷◌, length, take, drop, sym, ap, ◌∙◌, subst, arith, Bor}
use Rattle.std.proofs.lemmas.List.{take_min, take_rest, take-append-drop, drop_all, drop-drop}
use Rattle.message.specs.Recordings.{Place, place, part_at, Walk, joined, CountUp, Complete}
use Rattle.message.specs.declared.recordings.Part.{Part}

-- the first sixteen of what is left of a list from a place on
pub part_rest : (xs : List ℕ) (s n : ℕ) → n ≡ min 16 (length (take (length xs - s) (drop s xs))) → take n (take (length xs - s) (drop s xs)) ≡ take 16 (drop s xs)
part_rest xs s n few = rw few (take_min 16 (take (length xs - s) (drop s xs)) ∙ ap (take 16) (take_rest xs s))

-- what is left of the recording goes out part by part
rest_joined : (ps : List Part) (s : Place) → Walk s ps → joined ps ≡ drop (16 * s.next) s.recording.now
rest_joined [] s w = sym (drop_all (16 * s.next) s.recording.now w.1.1)
rest_joined (p ∷ ps) s w =
    let t = w.0 in
    let step = w.1 in
    let xs = s.recording.now in
    let n = s.next in
    let more = rest_joined ps t w.2 in
    let part : p.bytes.now ≡ part_at xs n = step.1.bytes ∙ ap (part_at xs) step.0 in
    let place : 16 * t.next ≡ 16 * n + 16 = omega (arith, step.3) in
    let rest : drop (16 * t.next) t.recording.now ≡ drop 16 (drop (16 * n) xs) =
    ap (λ (r : Bor (List ℕ)). drop (16 * t.next) r.now) step.2 ∙ ap (λ (k : ℕ). drop k xs) place ∙ sym (drop-drop 16 (16 * n) xs) in
    let all = take-append-drop 16 (drop (16 * n) xs) in
    cc

rest_counted : (ps : List Part) (s : Place) → Walk s ps → CountUp s.next ps
rest_counted [] s w = tt
rest_counted (p ∷ ps) s w = (w.1.0, subst (λ (n : ℕ). CountUp n ps) w.1.3 (rest_counted ps w.0 w.2))

pub complete : (recording : Bor (List ℕ)) → Complete recording (place recording 0)
complete recording ps w = (rest_joined ps (place recording 0) w, rest_counted ps (place recording 0) w)
