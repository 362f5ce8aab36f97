-- Every accepted message keeps the machine sound.
use Rattle.std.proofs.Common.{◌≡◌, ℕ, zero, suc, ◌+◌, ◌<◌, ◌≤◌, List, [], ◌∷◌, ◌++◌, length, get_or, set, replicate, Some, None, Ok, Option, sym, refl, ap, subst, inl, inr, arith}
use Rattle.std.specs.Option.{option_map}
use Rattle.std.proofs.lemmas.List.Elements.{All-nil, All-head, All-tail, All-push}
use Rattle.std.proofs.lemmas.Bool.{cases_lt}
use Rattle.message.specs.Kinds.{kind_of}
use Rattle.message.specs.Format.{field}
use Rattle.message.specs.Reading.{Refused, event_of}
use Rattle.message.specs.Refusals.{NoneHolds}
use Rattle.message.specs.declared.kinds.Kind.{Kind}
use Rattle.processor.specs.Entries.{Fits}
use Rattle.processor.specs.Growth.{Grown}
use Rattle.processor.specs.History.{Fitting, Recorded}
use Rattle.processor.specs.Laws.{Laws}
use Rattle.processor.specs.Logging.{Asks, LogRefused, Logs}
use Rattle.processor.specs.Departures.{departure}
use Rattle.processor.specs.Machine.{Machine, row, opened, with_row, entered, acted, drained_from, drained_by, fenced, kept, cut, counted}
use Rattle.processor.specs.Memory.{InLine}
use Rattle.processor.specs.Operations.{operation, operation_for, InRange, Refuses, step}
use Rattle.processor.specs.Playing.{Accepts}
use Rattle.processor.specs.Sound.{Facts, Sound}
use Rattle.processor.specs.Sources.{load_of, from_waiting, from_cached}
use Rattle.processor.specs.Waiting.{AllFit}
use Rattle.processor.specs.declared.departures.Departure.{Departure}
use Rattle.processor.specs.declared.entries.Entry.{Entry}
use Rattle.processor.specs.declared.entries.Entry.TheVariants.{StoreFence}
use Rattle.processor.specs.declared.faults.BufferFault.TheVariants.{Message, Full}
use Rattle.processor.specs.declared.faults.CaseFault.TheVariants.{Buffer, Moments, Loads, Cuts}
use Rattle.processor.specs.declared.loads.Load.{Load}
use Rattle.processor.specs.declared.operations.Operation.{Operation}
use Rattle.processor.specs.declared.operations.Operation.TheVariants.{Enter, Drain, FullFence, PowerCut}
use Rattle.processor.specs.declared.operations.Operation.TheVariants as asked
use Rattle.processor.proofs.Bounds.{taken_drained_by}
use Rattle.processor.proofs.FloorLaws.{floor_within, mark_within}
use Rattle.processor.proofs.Grows.{grown_trans, grown_same, grown_counted, others_stay}
use Rattle.processor.proofs.HistoryLaws.{recorded_none, recorded_later, recorded_push}
use Rattle.processor.proofs.Hearing.{in_its_range}
use Rattle.processor.proofs.Last.{last_is}
use Rattle.processor.proofs.MachineFacts.{at_set, no_rows, acted-facts, leave_facts, cut-facts, entered-facts, kept-facts, facts-opened}
use Rattle.processor.proofs.Raising.{largest-floor}
use Rattle.processor.proofs.Steps.{accepted_step, bound_small, counted-facts}

facts : (m : Machine) → Sound m → Facts m
facts m s = record { loaded = s.loaded; counted = s.counted; four = s.four; cuts = s.cuts; moments = s.moments; rows = s.rows; loads = s.loads }

recorded : (m : Machine) → Sound m → Recorded m.run m.left
recorded m s = record { placed = s.placed; in_turn = s.in_turn; dated = s.dated }

-- what a machine is sound by, apart from what follows
record Parts (m : Machine) : Type 0 where
  recorded : Recorded m.run m.left
  fitting : Fitting m.left
  waiting : (t : ℕ) → AllFit (row m t)
  facts : Facts m

sound_by : (m : Machine) → Parts m → Sound m
sound_by m p = record {
  placed = p.recorded.placed;
  fitting = p.fitting;
  in_turn = p.recorded.in_turn;
  dated = p.recorded.dated;
  largest = λ r n. largest-floor r n m.left p.recorded.dated;
  floored = λ r n. floor_within r n m.left p.recorded.dated;
  marked = λ t n. mark_within m.run t n m.left p.recorded.dated;
  four = p.facts.four;
  waiting = p.waiting;
  loaded = p.facts.loaded;
  cuts = p.facts.cuts;
  moments = p.facts.moments;
  rows = p.facts.rows;
  loads = p.facts.loads;
  counted = p.facts.counted;
  few = omega (arith, p.facts.counted, bound_small m p.facts);
}

-- ── rows ──
fitting_set : (W : List (List Entry)) (t : ℕ) (es : List Entry) → AllFit es → ((k : ℕ) → AllFit (get_or W k [])) → (k : ℕ) → AllFit (get_or (set W t es) k [])
fitting_set W t es l h k = at_set W t es [] AllFit k l (h k)

none_fit : (t : ℕ) → AllFit (get_or {A = List Entry} (replicate 4 []) t [])
none_fit t = subst AllFit (sym (no_rows t)) (All-nil Fits)

pushed_fits : (D : List Departure) (d : Departure) → Fitting D → Fits d.entry → Fitting (D ++ d ∷ [])
pushed_fits D d h fit = All-push (λ (x : Departure). Fits x.entry) D d h fit

-- ── steps ──
sound_acted : (t : ℕ) (e : Entry) (m : Machine) → Sound m → t < 4 → Fits e → length m.left < 512 → Sound (acted t e m)
sound_acted t e m s four l room = sound_by (acted t e m) (record {
  recorded = recorded_push m.run m.left (recorded m s) t e four;
  fitting = pushed_fits m.left (departure m.run m.left t e) s.fitting l;
  waiting = s.waiting;
  facts = acted-facts m (facts m s) t e room;
})

sound_drained : (es : List Entry) (t : ℕ) (m : Machine) → row m t ≡ es → Sound m → t < 4 → length m.left < 512 → Sound (drained_from es t m)
sound_drained [] t m w s four room = s
sound_drained (e ∷ es) t m w s four room = sound_by (acted t e (with_row t es m)) (record {
  recorded = recorded_push m.run m.left (recorded m s) t e four;
  fitting = pushed_fits m.left (departure m.run m.left t e) s.fitting (All-head Fits e es (subst AllFit w (s.waiting t)));
  waiting = fitting_set m.waits t es (All-tail Fits e es (subst AllFit w (s.waiting t))) s.waiting;
  facts = leave_facts m (facts m s) t e es w room;
})

sound_drained_by : (n t : ℕ) (m : Machine) → Sound m → t < 4 → length m.left + n ≤ 512 → Sound (drained_by n t m)
sound_drained_by zero t m s four l = s
sound_drained_by (suc n) t m s four l = sound_drained (row (drained_by n t m) t) t (drained_by n t m) refl (sound_drained_by n t m s four (omega arith)) four (omega (arith, taken_drained_by n t m))

sound_fenced : (t : ℕ) (m : Machine) → Sound m → t < 4 → length m.left + length (row m t) + 1 ≤ 512 → Sound (fenced t m)
sound_fenced t m s four l =
    let n : ℕ = length (row m t) in
    sound_acted t StoreFence (drained_by n t m) (sound_drained_by n t m s four (omega arith)) four tt (omega (arith, taken_drained_by n t m))

sound_entered : (t : ℕ) (e : Entry) (m : Machine) → Sound m → Fits e → t < 4 → length (row m t) < 8 → Sound (entered t e m)
sound_entered t e m s l four room = sound_by (entered t e m) (record {
  recorded = recorded m s;
  fitting = s.fitting;
  waiting = fitting_set m.waits t (row m t ++ e ∷ []) (All-push Fits (row m t) e (s.waiting t) l) s.waiting;
  facts = entered-facts m (facts m s) t e four room;
})

sound_kept : (l : Load) (m : Machine) → Sound m → l.run ≤ m.run → InLine l.access → length m.loads < 256 → Sound (kept l m)
sound_kept l m s a b room = sound_by (kept l m) (record { recorded = recorded m s; fitting = s.fitting; waiting = s.waiting; facts = kept-facts m (facts m s) l a b room })

sound_cut : (m : Machine) → Sound m → m.run < 4 → Sound (cut m)
sound_cut m s l = sound_by (cut m) (record { recorded = recorded_later m.run m.left (recorded m s); fitting = s.fitting; waiting = none_fit; facts = cut-facts m (facts m s) l })

begins : Sound opened
begins = sound_by opened (record { recorded = recorded_none 0; fitting = λ i d l. absurd (omega arith); waiting = none_fit; facts = facts-opened })

-- ── operations ──
not_refused : (n k : ℕ) → (n ≤ k → ⊥) → k < n
not_refused n k h = elim (cases_lt k n) [ inl l ↦ l | inr l ↦ absurd (h l) ]

sound_step : (o : Operation) (m : Machine) → InRange o → NoneHolds (Refuses m o) → Sound m → Sound (step o m)
sound_step (Enter t e) m i none s = sound_entered t e m s i.1 i.0 (not_refused 8 (length (row m t)) (λ l. none (Buffer (Full t)) (refl, l)))
sound_step (Drain t) m i none s = sound_drained (row m t) t m refl s i (not_refused 512 (length m.left) (λ l. none (Moments m.run) (inr (refl, l))))
sound_step (FullFence t) m i none s =
    sound_fenced t m s i (let l = not_refused 513 (length m.left + length (row m t) + 1) (λ l. none (Moments m.run) (refl, l)) in omega arith)
sound_step (asked.Load t x) m i none s = sound_kept (load_of m t x) m s (omega arith) i.1 (not_refused 256 (length m.loads) (λ l. none (Loads m.run) (refl, l)))
sound_step PowerCut m i none s = sound_cut m s (not_refused 4 m.run (λ l. none (Cuts m.run) (refl, l)))

sound_counted : (o : Operation) (m : Machine) → InRange o → NoneHolds (Refuses m o) → Sound m → Sound (counted (step o m))
sound_counted o m i none s =
    let k = sound_step o m i none s in
    sound_by (counted (step o m)) (record {
      recorded = recorded (step o m) k;
      fitting = k.fitting;
      waiting = k.waiting;
      facts = counted-facts m (step o m) o ((step o m).accepted + 1) refl (omega (arith, accepted_step o m)) (facts m s) (facts (step o m) k) i none;
    })

-- ── messages ──
module _ (m : Machine) (b : List ℕ) (none : NoneHolds (LogRefused m b)) where
  read_so : NoneHolds (Refused b)
  read_so f h = none (Buffer (Message f)) (inl (f, refl, h))

  done_so : (o : Operation) → Asks b o → NoneHolds (Refuses m o)
  done_so o a f h = none f (inr (o, a, h))

  asked_in_range : (o : Operation) (k : Option Kind) → kind_of (field b 0) ≡ k → Asks b o → InRange o
  asked_in_range o None h a =
      let e : operation_for (event_of b) ≡ None = ap (option_map (λ j. operation j (event_of b))) h in
      let z : ◌≡◌ {A = ℕ} 0 1 = cc in
      absurd (omega arith)
  asked_in_range o (Some k) h a =
      let e : operation_for (event_of b) ≡ Some (operation k (event_of b)) = ap (option_map (λ j. operation j (event_of b))) h in
      let is : operation k (event_of b) ≡ o = cc in
      subst InRange is (in_its_range b read_so k h)

sound_logged : (m : Machine) (b : List ℕ) (m' : Machine) → Logs m b (Ok tt) m' → Sound m → Sound m'
sound_logged m b m' (none, (o, a, is)) s =
    subst Sound (sym is) (sound_counted o m (asked_in_range m b none o (kind_of (field b 0)) refl a) (done_so m b none o a) s)

grown_logged : (m : Machine) (b : List ℕ) (m' : Machine) → Logs m b (Ok tt) m' → Grown m m'
grown_logged m b m' (none, (o, a, is)) = subst (Grown m) (sym is) (grown_counted o m)

-- ── lists of messages ──
sound_accepted : (m : Machine) (bs : List (List ℕ)) (m' : Machine) → Sound m → Accepts m bs m' → Sound m'
sound_accepted m [] m' s e = subst Sound (sym e) s
sound_accepted m (b ∷ bs) m' s (n, l, r) = sound_accepted n bs m' (sound_logged m b n l s) r

pub grown_accepted : (m : Machine) (bs : List (List ℕ)) (m' : Machine) → Accepts m bs m' → Grown m m'
grown_accepted m [] m' e = subst (Grown m) (sym e) (grown_same m m (omega arith) refl refl)
grown_accepted m (b ∷ bs) m' (n, l, r) = grown_trans m n m' (grown_logged m b n l) (grown_accepted n bs m' r)

pub laws : Laws
laws = record {
  begins = begins;
  keeps = sound_accepted;
  grows = grown_accepted;
  others = others_stay;
  youngest = λ b es. last_is (from_waiting b) es;
  latest = λ r b D. last_is (from_cached r b) D;
}
