-- A pass over what left in a run finds the floor of a line.
use Rattle.std.proofs.Common.{◌≡◌, ℕ, ◌+◌, ◌<◌, max, Bool, true, false, cond, ◌&&◌, eqb, List, [], ◌∷◌, ◌++◌, reverse, length, get_or, take, set, sym, refl, ap, ◌∙◌, subst, inl, inr, append-nil, arith}
use Rattle.std.proofs.lemmas.List.Elements.{filter_more}
use Rattle.std.proofs.lemmas.List.{get_or-set_same, get_or-set_other, get_or-replicate, length-set, reverse-append}
use Rattle.std.proofs.lemmas.Bool.{cases_eq, eq-eqb, ne_eqb}
use Rattle.processor.specs.Departures.{of_run, fences, writes, last_by, mark, set_after, set_mark, raised, floor_after}
use Rattle.processor.specs.FloorPass.{no_flushes, unflushed, noted, thread_at, passed}
use Rattle.processor.specs.declared.departures.Departure.{Departure}
use Rattle.processor.specs.declared.floors.LineFlushes.{LineFlushes}
use Rattle.processor.specs.declared.floors.ThreadFlushes.{ThreadFlushes}

-- what a thread has after what left, newest first
pub record Follows (t n : ℕ) (older : List Departure) (f : ThreadFlushes) : Type 0 where
  pub fence : f.fence ≡ last_by t fences older
  pub write : f.write ≡ last_by t (writes n) older
  pub mark : f.mark ≡ set_mark t n older

pub record Tracks (n : ℕ) (older : List Departure) (s : LineFlushes) : Type 0 where
  pub floor : s.floor ≡ floor_after n older
  pub four : length s.threads ≡ 4
  pub threads : (t : ℕ) → t < 4 → Follows t n older (thread_at s t)

pub tracks_none : (n : ℕ) → Tracks n [] unflushed
tracks_none n = record { floor = refl; four = refl; threads = λ t l. subst (Follows t n []) (sym (get_or-replicate 4 t no_flushes no_flushes l)) (record { fence = refl; write = refl; mark = refl }) }

-- the entry is the thread's own
own_more : (t n : ℕ) (older : List Departure) (d : Departure) (f : ThreadFlushes) → d.thread ≡ t → Follows t n older f → Follows t n (d ∷ older) (noted n d.entry d.moment f)
own_more t n older d f same h =
    let e : eqb d.thread t ≡ true = eq-eqb d.thread t same in
    record {
      fence = ap (λ x. cond (fences d.entry) d.moment x) h.fence ∙ sym (ap (λ b. cond (b && fences d.entry) d.moment (last_by t fences older)) e);
      write = ap (λ x. cond (writes n d.entry) d.moment x) h.write ∙ sym (ap (λ b. cond (b && writes n d.entry) d.moment (last_by t (writes n) older)) e);
      mark = joined f.mark f.fence f.write h.mark h.fence h.write ∙ sym (ap (λ b. cond b (set_after n d.entry (set_mark t n older) (mark t n older)) (set_mark t n older)) e);
    }
  where
    joined : (m a b : ℕ) → m ≡ set_mark t n older → a ≡ last_by t fences older → b ≡ last_by t (writes n) older → set_after n d.entry m (max a b) ≡ set_after n d.entry (set_mark t n older) (mark t n older)
    joined m a b p q r = rw (p, q, r)

-- the entry is another thread's
other_more : (t n : ℕ) (older : List Departure) (d : Departure) (f : ThreadFlushes) → (d.thread ≡ t → ⊥) → Follows t n older f → Follows t n (d ∷ older) f
other_more t n older d f apart h =
    let e : eqb d.thread t ≡ false = ne_eqb d.thread t apart in
    record {
      fence = h.fence ∙ sym (ap (λ b. cond (b && fences d.entry) d.moment (last_by t fences older)) e);
      write = h.write ∙ sym (ap (λ b. cond (b && writes n d.entry) d.moment (last_by t (writes n) older)) e);
      mark = h.mark ∙ sym (ap (λ b. cond b (set_after n d.entry (set_mark t n older) (mark t n older)) (set_mark t n older)) e);
    }

pub tracks_more : (n : ℕ) (older : List Departure) (d : Departure) (s : LineFlushes) → d.thread < 4 → Tracks n older s → Tracks n (d ∷ older) (passed n d s)
tracks_more n older d s l h = let new : ThreadFlushes = noted n d.entry d.moment (thread_at s d.thread) in record {
  floor = ap (λ x. raised n d.entry d.moment x s.floor) (h.threads d.thread l).mark ∙ ap (λ x. raised n d.entry d.moment (set_mark d.thread n older) x) h.floor;
  four = length-set s.threads d.thread new ∙ h.four;
  threads = λ t k. elim (cases_eq t d.thread) [
    | inl e ↦ subst (Follows t n (d ∷ older)) (sym (ap (λ j. get_or (set s.threads d.thread new) j no_flushes) e ∙ get_or-set_same s.threads d.thread new no_flushes (omega (arith, h.four)))) (own_more t n older d (thread_at s d.thread) (sym e) (subst (λ j. Follows t n older (thread_at s j)) e (h.threads t k)))
    | inr e ↦ subst (Follows t n (d ∷ older)) (sym (get_or-set_other s.threads d.thread t new no_flushes e)) (other_more t n older d (thread_at s t) (λ z. e (sym z)) (h.threads t k))
  ];
}

-- ── the steps of the loop: d stands at place i of what left ──
module _ (r n : ℕ) (D : List Departure) (i : ℕ) (d : Departure) (l : i < length D) (is : d ≡ get_or D i d) (s : LineFlushes) (inv : Tracks n (reverse (of_run r (take i D))) s) where
  more : (b : Bool) → eqb d.run r ≡ b → of_run r (take (i + 1) D) ≡ of_run r (take i D) ++ cond b (d ∷ []) []
  more b e =
      filter_more (λ x. eqb x.run r) D i d l
      ∙ ap (λ (x : Departure). of_run r (take i D) ++ cond (eqb x.run r) (x ∷ []) []) (sym is)
      ∙ ap (λ c. of_run r (take i D) ++ cond c (d ∷ []) []) e

  pub same_run : d.run ≡ r → d.thread < 4 → (s' : LineFlushes) → s' ≡ passed n d s → Tracks n (reverse (of_run r (take (i + 1) D))) s'
  same_run e four s' made =
      let back : reverse (of_run r (take (i + 1) D)) ≡ d ∷ reverse (of_run r (take i D)) = ap (λ (x : List Departure). reverse x) (more true (eq-eqb d.run r e)) ∙ reverse-append (of_run r (take i D)) (d ∷ []) in
      subst (Tracks n (reverse (of_run r (take (i + 1) D)))) (sym made) (subst (λ (x : List Departure). Tracks n x (passed n d s)) (sym back) (tracks_more n (reverse (of_run r (take i D))) d s four inv))

  pub other_run : (d.run ≡ r → ⊥) → Tracks n (reverse (of_run r (take (i + 1) D))) s
  other_run e = subst (λ (x : List Departure). Tracks n (reverse x) s) (sym (more false (ne_eqb d.run r e) ∙ append-nil (of_run r (take i D)))) inv
