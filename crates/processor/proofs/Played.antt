-- One more message of a recording.
use Rattle.std.proofs.Common.{◌≡◌, ℕ, ◌+◌, List, [], ◌∷◌, ◌++◌, Ok, sym, refl, subst, arith}
use Rattle.std.proofs.lemmas.List.FromFn.{map-range_with_len_more}
use Rattle.message.specs.Recordings.{part_at}
use Rattle.processor.specs.Logging.{Logs}
use Rattle.processor.specs.Machine.{Machine}
use Rattle.processor.specs.Playing.{Accepts, parts}

accepts_push : (m n k : Machine) (bs : List (List ℕ)) (b : List ℕ) → Accepts m bs n → Logs n b (Ok tt) k → Accepts m (bs ++ b ∷ []) k
accepts_push m n k [] b e h = (k, subst (λ (x : Machine). Logs x b (Ok tt) k) e h, refl)
accepts_push m n k (a ∷ bs) b (x, l, r) h = (x, l, accepts_push x n k bs b r h)

pub part_accepted : (m n k : Machine) (recording : List ℕ) (i : ℕ) (b : List ℕ) → Accepts m (parts recording i) n → b ≡ part_at recording i → Logs n b (Ok tt) k → Accepts m (parts recording (i + 1)) k
part_accepted m n k recording i b before is h =
    subst (λ (bs : List (List ℕ)). Accepts m bs k) (sym (map-range_with_len_more (part_at recording) 0 i i (omega arith)))
    (accepts_push m n k (parts recording i) (part_at recording i) before (subst (λ (x : List ℕ). Logs n x (Ok tt) k) is h))
