-- The fields of a message under the map of a kind, by their offsets.
use Rattle.std.proofs.Common.{◌≡◌, ℕ, zero, suc, ◌+◌, ◌*◌, ◌%◌, ◌<◌, ◌≤◌, Bool, true, false, List, length, get_or, take, drop, sym, refl, ap, ◌∙◌, arith, drop-cons}
use Rattle.std.proofs.lemmas.Bool.Decides.{nat_tests}
use Rattle.message.specs.Checks.{value_at, event_at}
use Rattle.message.specs.Format.{stands, Stands, room, offset, fields_end, little, field, Zeros}
use Rattle.message.specs.Kinds.{map_of}
use Rattle.message.specs.Reading.{event_of}
use Rattle.message.specs.declared.events.Event.{Event}
use Rattle.message.specs.declared.kinds.Kind.{Kind}
use Rattle.message.specs.declared.kinds.Kind.TheVariants.{Store, StrongFlush, WeakFlush, StoreFence, FullFence, Drain, Load, PowerCut}

-- what holds of the four maps holds of the map of each kind
pub of_maps : (P : ℕ → Type 0) → P 31 → P 7 → P 3 → P 1 → (k : Kind) → P (map_of k)
of_maps P full placed threaded bare Store = full
of_maps P full placed threaded bare StrongFlush = placed
of_maps P full placed threaded bare WeakFlush = placed
of_maps P full placed threaded bare StoreFence = threaded
of_maps P full placed threaded bare FullFence = threaded
of_maps P full placed threaded bare Drain = threaded
of_maps P full placed threaded bare Load = full
of_maps P full placed threaded bare PowerCut = bare

-- a number from n bytes at an offset
abbrev little_at : ℕ → ℕ → List ℕ → ℕ
little_at zero s b = 0
little_at (suc n) s b = get_or b s 0 + 256 * little_at n (suc s) b

little_at_place : (n s : ℕ) (b : List ℕ) → s + n ≤ length b → little (take n (drop s b)) ≡ little_at n s b
little_at_place zero s b h = refl
little_at_place (suc n) s b h =
    let lt : s < length b = omega arith in
    rw (drop-cons b s 0) (ap (λ (v : ℕ). get_or b s 0 + 256 * v) (little_at_place n (suc s) b (omega arith)))

-- the number in the field of bit n under a map
abbrev pub field_under : ℕ → List ℕ → ℕ → ℕ
field_under m b n = little (take (room m n) (drop (offset m n) b))

abbrev pub event_under : ℕ → List ℕ → Event
event_under m b = record { kind = field_under m b 0; thread = field_under m b 1; address = field_under m b 2; width = field_under m b 3; value = field_under m b 4 }

abbrev made : ℕ → ℕ → ℕ → ℕ → ℕ → Event
made k t a w v = record { kind = k; thread = t; address = a; width = w; value = v }

-- two events with equal fields
pub same_event : {k k' t t' a a' w w' v v' : ℕ} → k ≡ k' → t ≡ t' → a ≡ a' → w ≡ w' → v ≡ v' → made k t a w v ≡ made k' t' a' w' v'
same_event k t a w v = cc

-- the fields of a message of sixteen bytes
module _ (b : List ℕ) (long : length b ≡ 16) where
  one : (s : ℕ) → s < 16 → little (take 1 (drop s b)) ≡ get_or b s 0
  one s h = little_at_place 1 s b (omega arith) ∙ omega arith

  two : little (take 2 (drop 3 b)) ≡ get_or b 3 0 + get_or b 4 0 * 256
  two = little_at_place 2 3 b (omega arith) ∙ omega arith

  pub eight : little (take 8 (drop 6 b)) ≡ value_at b
  eight = little_at_place 8 6 b (omega arith) ∙ omega arith

  lacks_value : Zeros b 5 16 → value_at b ≡ 0
  lacks_value z =
      let at : (i : ℕ) → 5 ≤ i → i < 16 → get_or b i 0 ≡ 0 = z in
      omega (arith, at 6 (omega arith) (omega arith), at 7 (omega arith) (omega arith), at 8 (omega arith) (omega arith), at 9 (omega arith) (omega arith), at 10 (omega arith) (omega arith), at 11 (omega arith) (omega arith), at 12 (omega arith) (omega arith), at 13 (omega arith) (omega arith))

  later : (i j : ℕ) → i ≤ j → Zeros b i 16 → Zeros b j 16
  later i j le z k lo hi = z k (omega arith) hi

  full : event_under 31 b ≡ event_at b
  full = same_event (one 1 (omega arith)) (one 2 (omega arith)) two (one 5 (omega arith)) eight

  placed : Zeros b 5 16 → event_under 7 b ≡ event_at b
  placed z = same_event (one 1 (omega arith)) (one 2 (omega arith)) two (sym (z 5 (omega arith) (omega arith))) (sym (lacks_value z))

  lacks_address : Zeros b 3 16 → get_or b 3 0 + get_or b 4 0 * 256 ≡ 0
  lacks_address z = omega (arith, z 3 (omega arith) (omega arith), z 4 (omega arith) (omega arith))

  threaded : Zeros b 3 16 → event_under 3 b ≡ event_at b
  threaded z = same_event (one 1 (omega arith)) (one 2 (omega arith)) (sym (lacks_address z)) (sym (z 5 (omega arith) (omega arith))) (sym (lacks_value (later 3 5 (omega arith) z)))

  bare : Zeros b 2 16 → event_under 1 b ≡ event_at b
  bare z = same_event (one 1 (omega arith)) (sym (z 2 (omega arith) (omega arith))) (sym (lacks_address (later 2 3 (omega arith) z))) (sym (z 5 (omega arith) (omega arith))) (sym (lacks_value (later 2 5 (omega arith) z)))

  -- the event under the map of a kind
  pub event_places : (k : Kind) → get_or b 0 0 ≡ map_of k → Zeros b (fields_end (map_of k)) 16 → event_of b ≡ event_at b
  event_places k e z =
      ap (λ (m : ℕ). event_under m b) e ∙ of_maps (λ m. Zeros b (fields_end m) 16 → event_under m b ≡ event_at b) (λ _. full) placed threaded bare k z

  -- the kind, once bit 0 stands
  pub kind_place : get_or b 0 0 % 2 ≡ 1 → field b 0 ≡ get_or b 1 0
  kind_place odd =
      let bit : stands (get_or b 0 0) 0 ≡ true = grind (arith, nat_tests) in
      rw bit (one 1 (omega arith))

-- what holds of the full map holds of the map of each kind that has a field of the full map alone
pub of_full : (n : ℕ) → stands 7 n ≡ false → stands 3 n ≡ false → stands 1 n ≡ false → (P : ℕ → Type 0) → P 31 → (k : Kind) → Stands (map_of k) n → P (map_of k)
of_full n placed threaded bare P full =
    of_maps (λ m. Stands m n → P m) (λ _. full) (λ s. absurd (apart placed s)) (λ s. absurd (apart threaded s)) (λ s. absurd (apart bare s))
  where
    apart : {b : Bool} → b ≡ false → b ≡ true → ⊥
    apart f t = grind arith

pub value_offset : (k : Kind) → Stands (map_of k) 4 → offset (map_of k) 4 ≡ 6
value_offset = of_full 4 refl refl refl (λ m. offset m 4 ≡ 6) refl
