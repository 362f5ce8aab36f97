-- What left in the present run stands last.
use Rattle.std.proofs.Common.{◌≡◌, ℕ, zero, suc, ◌-◌, ◌<◌, ◌≤◌, eqb, None, List, [], ◌∷◌, length, get_or, drop, true, false, cond, refl, sym, ap, ◌∙◌, inl, inr, arith}
use Rattle.std.specs.Option.{option_or}
use Rattle.std.proofs.lemmas.Bool.{cases_eq, eq-eqb, ne_eqb, cond-true, cond-false}
use Rattle.processor.specs.Departures.{of_run, count}
use Rattle.processor.specs.History.{Recorded}
use Rattle.processor.specs.Sources.{from_cached, from_departure, last_of}
use Rattle.processor.specs.declared.departures.Departure.{Departure}
use Rattle.processor.proofs.HistoryLaws.{count_few}
use Rattle.processor.proofs.Last.{or_none}

module _ (r : ℕ) where
  all_of_run : (D : List Departure) → ((i : ℕ) (d : Departure) → i < length D → (get_or D i d).run ≡ r) → of_run r D ≡ D
  all_of_run [] all = refl
  all_of_run (d ∷ D) all =
      cond-true (eqb d.run r) (d ∷ of_run r D) (of_run r D) (eq-eqb d.run r (all 0 d (omega arith))) ∙ ap (λ E. d ∷ E) (all_of_run D (λ i e l. all (suc i) e (omega arith)))

  -- what left after one of run r, where no run is later
  all_later : (d : Departure) (D : List Departure) → d.run ≡ r → ((i : ℕ) (e : Departure) → i < length (d ∷ D) → (get_or (d ∷ D) i e).run ≤ r) → ((i j : ℕ) (e : Departure) → i < j → j < length (d ∷ D) → (get_or (d ∷ D) i e).run ≤ (get_or (d ∷ D) j e).run) → (i : ℕ) (e : Departure) → i < length (d ∷ D) → (get_or (d ∷ D) i e).run ≡ r
  all_later d D same up in_turn zero e l = same
  all_later d D same up in_turn (suc i) e l = omega (arith, same, up (suc i) e l, in_turn 0 (suc i) e (omega arith) l)

  last_in_turn : (D : List Departure) → ((i : ℕ) (d : Departure) → i < length D → (get_or D i d).run ≤ r) → ((i j : ℕ) (d : Departure) → i < j → j < length D → (get_or D i d).run ≤ (get_or D j d).run) → drop (length D - count r D) D ≡ of_run r D
  last_in_turn [] up in_turn = refl
  last_in_turn (d ∷ D) up in_turn = elim (cases_eq d.run r) [
    | inl same ↦
        let whole = all_of_run (d ∷ D) (λ j e l. all_later d D same up in_turn j e l) in
        let none : length (d ∷ D) - count r (d ∷ D) ≡ 0 = omega (arith, ap length whole) in
        ap (λ n. drop n (d ∷ D)) none ∙ sym whole
    | inr other ↦
        let fewer : of_run r (d ∷ D) ≡ of_run r D = cond-false (eqb d.run r) (d ∷ of_run r D) (of_run r D) (ne_eqb d.run r other) in
        let further : length (d ∷ D) - count r (d ∷ D) ≡ suc (length D - count r D) = omega (arith, ap length fewer, count_few r D) in
        ap (λ n. drop n (d ∷ D)) further ∙ last_in_turn D (λ j e l. up (suc j) e (omega arith)) (λ i j e l m. in_turn (suc i) (suc j) e (omega arith) (omega arith)) ∙ sym fewer
  ]

  pub present_is : (D : List Departure) → Recorded r D → drop (length D - count r D) D ≡ of_run r D
  present_is D h = last_in_turn D (λ i d l. (h.placed i d l).0) h.in_turn

  pub last_of_run : (b : ℕ) (D : List Departure) → last_of (from_departure b) (of_run r D) ≡ last_of (from_cached r b) D
  last_of_run b [] = refl
  last_of_run b (d ∷ D) =
      let rest = last_of_run b D in
      elim (eqb d.run r) as (λ x. last_of (from_departure b) (cond x (d ∷ of_run r D) (of_run r D)) ≡ option_or (last_of (from_cached r b) D) (cond x (from_departure b d) None)) [
        | true ↦ ap (λ o. option_or o (from_departure b d)) rest
        | false ↦ rest ∙ sym (or_none (last_of (from_cached r b) D))
      ]
