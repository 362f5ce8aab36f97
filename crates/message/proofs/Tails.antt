-- The first byte that is not 0, in a part of a list and in the list.
use Rattle.std.proofs.Common.{◌≡◌, ℕ, ◌+◌, ◌-◌, ◌<◌, ◌≤◌, List, get_or, take, drop, sym, ap, ◌∙◌, arith}
use Rattle.std.proofs.lemmas.List.{get_or-take, get_or-drop}
use Rattle.message.specs.Format.{Zeros, FirstNonzero}

-- an element of the part from `a` to below `e`, by its place in the list
element : (b : List ℕ) (a e k : ℕ) → a ≤ k → k < e → get_or (take (e - a) (drop a b)) (k - a) 0 ≡ get_or b k 0
element b a e k lo hi =
    let same : a + (k - a) ≡ k = omega arith in
    get_or-take (e - a) (drop a b) (k - a) 0 (omega arith) ∙ get_or-drop a b (k - a) 0 ∙ ap (λ (n : ℕ). get_or b n 0) same

pub zeros_between : (b : List ℕ) (a e n : ℕ) → n ≤ e → Zeros (take (e - a) (drop a b)) 0 (n - a) → Zeros b a n
zeros_between b a e n le z k lo hi = sym (element b a e k lo (omega arith)) ∙ z (k - a) (omega arith) (omega arith)

pub first_between : (b : List ℕ) (a e i n : ℕ) → n ≡ e - a → FirstNonzero (take (e - a) (drop a b)) 0 n i → FirstNonzero b a e (a + i)
first_between b a e i n same f =
    let high : i < n = f.high in
    let back : (a + i) - a ≡ i = omega arith in
    record {
      low = omega arith;
      high = omega arith;
      nonzero = λ z. f.nonzero (sym (ap (λ (k : ℕ). get_or (take (e - a) (drop a b)) k 0) back) ∙ element b a e (a + i) (omega arith) (omega arith) ∙ z);
      zeros = zeros_between b a e (a + i) (omega arith) (λ k lo hi. f.zeros k lo (omega arith));
    }
