-- The last of a list that gives anything.
use Rattle.std.proofs.Common.{◌≡◌, ℕ, zero, suc, ◌+◌, ◌-◌, ◌<◌, ◌≤◌, List, [], ◌∷◌, ◌++◌, length, get_or, take, Some, None, Option, MatchOption, IfSome, IsSomeAnd, true, sym, refl, ap, ap₂, ◌∙◌, arith}
use Rattle.std.proofs.lemmas.List.{take_all, take_more}
use Rattle.std.specs.Fn.{Called}
use Rattle.std.specs.Iterator.Runs.{Run, AllItemsGive, IsFirstToGive, IsIdenticalRun, ItemsMapToReversed}
use Rattle.std.specs.Option.{option_map, option_or}
use Rattle.processor.specs.Sources.{last_of, Last}
use denote.Param.Members.{Mut}

or_assoc : {A : Type 0} (o p q : Option A) → option_or (option_or o p) q ≡ option_or o (option_or p q)
or_assoc None p q = refl
or_assoc (Some x) p q = refl

pub or_none : {A : Type 0} (o : Option A) → option_or o None ≡ o
or_none None = refl
or_none (Some x) = refl

module _ {A B : Type 0} (f : A → Option B) where
  last_push : (xs : List A) (x : A) → last_of f (xs ++ x ∷ []) ≡ option_or (f x) (last_of f xs)
  last_push [] x = sym (or_none (f x))
  last_push (y ∷ xs) x = ap (λ o. option_or o (f y)) (last_push xs x) ∙ or_assoc (f x) (last_of f xs) (f y)

  -- what stands last, or else what stands before it
  pub last_or_before : (xs : List A) (x : A) → 0 < length xs → x ≡ get_or xs (length xs - 1) x → option_or (f x) (last_of f (take (length xs - 1) xs)) ≡ last_of f xs
  last_or_before xs x l is =
      let i = length xs - 1 in
      let whole : take (i + 1) xs ≡ xs = take_all (i + 1) xs (omega arith) in
      ap (λ y. option_or (f y) (last_of f (take i xs))) is
      ∙ sym (last_push (take i xs) (get_or xs i x))
      ∙ ap (last_of f) (sym (take_more xs i x (omega arith)) ∙ whole)

  -- without what stands last, where that gives nothing
  pub last_before : (xs : List A) (x : A) → 0 < length xs → x ≡ get_or xs (length xs - 1) x → f x ≡ None → last_of f (take (length xs - 1) xs) ≡ last_of f xs
  last_before xs x l is none = ap (λ o. option_or o (last_of f (take (length xs - 1) xs))) (sym none) ∙ last_or_before xs x l is

  last_one : (x : A) (xs : List A) (o p : Option B) → Last f xs o → f x ≡ p → Last f (x ∷ xs) (option_or o p)
  last_one x xs (Some y) p (before, z, after, stands, gives, none) q = (x ∷ before, z, after, ap (λ (l : List A). x ∷ l) stands, gives, none)
  last_one x xs None None none q = (q, none)
  last_one x xs None (Some y) none q = ([], x, xs, refl, q, none)

  pub last_is : (xs : List A) → Last f xs (last_of f xs)
  last_is [] = tt
  last_is (x ∷ xs) = last_one x xs (last_of f xs) (f x) (last_is xs) refl

  -- by places
  none_of : (xs : List A) → ((j : ℕ) (d : A) → j < length xs → f (get_or xs j d) ≡ None) → None ≡ last_of f xs
  none_of [] h = refl
  none_of (x ∷ xs) h = ap₂ option_or (none_of xs (λ j d l. h (suc j) d (omega arith))) (sym (h 0 x (omega arith)))

  some_of : (xs : List A) (j : ℕ) (d : A) (y : B) → j < length xs → f (get_or xs j d) ≡ Some y → ((k : ℕ) (e : A) → j < k → k < length xs → f (get_or xs k e) ≡ None) → Some y ≡ last_of f xs
  some_of [] j d y l is h = absurd (omega arith)
  some_of (x ∷ xs) zero d y l is h = sym is ∙ ap (λ o. option_or o (f x)) (none_of xs (λ k e m. h (suc k) e (omega arith) (omega arith)))
  some_of (x ∷ xs) (suc j) d y l is h = ap (λ o. option_or o (f x)) (some_of xs j d y (omega arith) is (λ k e m n. h (suc k) e (omega arith) (omega arith)))

-- what a search from the back finds
module _ {S T A B C F : Type 0} {steps : S → Option A → S → Type 0} {source : T → Option A → T → Type 0} (p : Run steps) (q : Run source) (same : IsIdenticalRun p q)
    (v : A → B) (xs : List B) (back : ItemsMapToReversed q v xs) (f : B → Option C) {g : Mut F (A × Unit {0}) (Option C)} {h : F}
    (calls : (x : A) (o : Option C) (k : F) → Called g h (x, tt) o k → (k ≡ h) × (o ≡ f (v x))) where
  gives : (w : Option A) (y : B) (o : Option C) → option_map v w ≡ Some y → IfSome w (λ x. Called g h (x, tt) o h) → f y ≡ o
  gives None y o e c = cc
  gives (Some x) y o e c = let is : v x ≡ y = cc in ap f (sym is) ∙ sym (calls x o h c).1

  if_there : (w : Option A) (o : Option C) → IsSomeAnd w (λ x. Called g h (x, tt) o h) → IfSome w (λ x. Called g h (x, tt) o h)
  if_there None o c = absurd c
  if_there (Some x) o c = c

  at_place : (j : ℕ) (d : B) (o : Option C) → j < length xs → length xs - 1 - j < p.len → IfSome (p.at (length xs - 1 - j)) (λ x. Called g h (x, tt) o h) → f (get_or xs j d) ≡ o
  at_place j d o l m c =
      gives (p.at (length xs - 1 - j)) (get_or xs j d) o (ap (option_map v) (sym (same.0.2 (length xs - 1 - j))) ∙ back.2 j d l (omega (arith, same.0.0))) c

  some_found : (y : C) (i : ℕ) → i < p.len → (w : Option A) → p.at i ≡ w → IsSomeAnd w (λ x. Called g h (x, tt) (Some y) h) → ((k : ℕ) → k < i → IsSomeAnd (p.at k) (λ x. Called g h (x, tt) None h)) → Some y ≡ last_of f xs
  some_found y i l None e here before = absurd here
  some_found y i l (Some x) e here before =
      let few : p.len ≤ length xs = omega (arith, back.0, same.0.0) in
      let is : length xs - 1 - (length xs - 1 - i) ≡ i = omega arith in
      some_of f xs (length xs - 1 - i) (v x) y (omega arith) (at_place (length xs - 1 - i) (v x) (Some y) (omega arith) (omega arith) (rw (is, e) here))
      (λ k d m n. at_place k d None n (omega arith) (if_there (p.at (length xs - 1 - k)) None (before (length xs - 1 - k) (omega arith))))

  pub found_last : (r : Option C) → MatchOption r ((p.whole ≡ true) × AllItemsGive p g h None) (λ y. (i : ℕ) × (i < p.len) × (p.len ≡ i + 1) × IsFirstToGive p g h (Some y) None i) → r ≡ last_of f xs
  found_last None (whole, none) =
      let all = back.1 (same.1 ∙ whole) in
      none_of f xs (λ j d l. at_place j d None l (omega (arith, same.0.0)) (none (λ a r k c. (calls a.0 r k c).0) (length xs - 1 - j)))
  found_last (Some y) (i, l, e, first) = let (here, before) = first (λ a r k c. (calls a.0 r k c).0) in some_found y i l (p.at i) refl here before
