-- What a step does to the count of messages and its bound.
use Rattle.std.proofs.Common.{◌≡◌, ℕ, zero, suc, ◌+◌, ◌≤◌, List, [], ◌∷◌, length, sym, refl, ap, ap₂, ◌∙◌, inl, arith}
use Rattle.message.specs.Refusals.{NoneHolds}
use Rattle.processor.specs.Machine.{Machine, machine_with, row, drained_from, drained_by, counted}
use Rattle.processor.specs.Operations.{InRange, Refuses, step}
use Rattle.processor.specs.Sound.{Facts, bound}
use Rattle.processor.specs.Sources.{load_of}
use Rattle.processor.specs.declared.entries.Entry.{Entry}
use Rattle.processor.specs.declared.faults.BufferFault.TheVariants.{Empty}
use Rattle.processor.specs.declared.faults.CaseFault.TheVariants.{Buffer}
use Rattle.processor.specs.declared.operations.Operation.{Operation}
use Rattle.processor.specs.declared.operations.Operation.TheVariants.{Enter, Drain, FullFence, Load, PowerCut}
use Rattle.processor.proofs.Bounds.{bound_leaves, bound-entered, bound-kept, bound-cut, bound-fenced}
use Rattle.processor.proofs.MachineFacts.{few_wait}

-- the bound grows with every message that is accepted
drain_grows : (es : List Entry) (t : ℕ) (m : Machine) → row m t ≡ es → (row m t ≡ [] → ⊥) → bound m + 1 ≤ bound (drained_from es t m)
drain_grows [] t m w n = absurd (n w)
drain_grows (e ∷ es) t m w n = omega (arith, bound_leaves m t e es w)

pub bound-step : (m : Machine) (o : Operation) → InRange o → Facts m → NoneHolds (Refuses m o) → bound m + 1 ≤ bound (step o m)
bound-step m (Enter t e) i f none = omega (arith, bound-entered t e m (omega (arith, i.0, f.four)))
bound-step m (Drain t) i f none = drain_grows (row m t) t m refl (λ w. none (Buffer (Empty t)) (inl (refl, w)))
bound-step m (FullFence t) i f none = bound-fenced t m
bound-step m (Load t x) i f none = omega (arith, bound-kept (load_of m t x) m)
bound-step m PowerCut i f none = bound-cut m (few_wait m f)

-- no step counts messages
accepted_drained : (es : List Entry) (t : ℕ) (m : Machine) → (drained_from es t m).accepted ≡ m.accepted
accepted_drained [] t m = refl
accepted_drained (e ∷ es) t m = refl

accepted_drained_by : (n t : ℕ) (m : Machine) → (drained_by n t m).accepted ≡ m.accepted
accepted_drained_by zero t m = refl
accepted_drained_by (suc n) t m = accepted_drained (row (drained_by n t m) t) t (drained_by n t m) ∙ accepted_drained_by n t m

pub accepted_step : (o : Operation) (m : Machine) → (step o m).accepted ≡ m.accepted
accepted_step (Enter t e) m = refl
accepted_step (Drain t) m = accepted_drained (row m t) t m
accepted_step (FullFence t) m = accepted_drained_by (length (row m t)) t m
accepted_step (Load t x) m = refl
accepted_step PowerCut m = refl

-- few messages are accepted at all
pub bound_small : (m : Machine) → Facts m → bound m ≤ 1444
bound_small m f = omega (arith, f.cuts, f.moments, few_wait m f, f.loads)

-- what is done, with a count of the messages accepted
module _ (m n : Machine) (o : Operation) (a : ℕ) (done : n ≡ step o m) where
  pub counted_is : a ≡ m.accepted + 1 → machine_with n.run n.left n.waits n.loads a ≡ counted (step o m)
  counted_is one = ap₂ (λ (x : Machine) (k : ℕ). machine_with x.run x.left x.waits x.loads k) done (one ∙ ap (λ k. k + 1) (sym (accepted_step o m)))

  pub counted-facts : a ≤ m.accepted + 1 → Facts m → Facts n → InRange o → NoneHolds (Refuses m o) → Facts (machine_with n.run n.left n.waits n.loads a)
  counted-facts one f g i none = record {
    loaded = g.loaded;
    counted = omega (arith, f.counted, bound-step m o i f none, ap bound done);
    four = g.four;
    cuts = g.cuts;
    moments = g.moments;
    rows = g.rows;
    loads = g.loads;
  }
