-- The refusal that the checks of packing find is the first whose condition holds.
use Rattle.std.proofs.Common.{◌≡◌, ℕ, ◌<◌, ◌≤◌, Some, subst, arith, lit<, lit≤, rules}
use Rattle.message.specs.Checks.{FieldsFit, ValueFits}
use Rattle.message.specs.Faults.{pack_code}
use Rattle.message.specs.Fields.{FieldRefused}
use Rattle.message.specs.Format.{Stands}
use Rattle.message.specs.Kinds.{kind_of, map_of}
use Rattle.message.specs.Packing.{PackRefused}
use Rattle.message.specs.Refusals.{Comes, NoneHolds}
use Rattle.message.specs.declared.events.Event.{Event}
use Rattle.message.specs.declared.faults.PackFault.{PackFault}
use Rattle.message.specs.declared.faults.PackFault.TheVariants.{Kind, Field, Value, Short}
use Rattle.message.specs.declared.kinds.Kind as kinds
use Rattle.message.proofs.FieldOrders.{map_known, FieldsPassed, fields_before, field_late, field_most}

-- the checks of a smaller number than n have passed
record Passed (e : Event) (k : kinds.Kind) (n : ℕ) : Type 0 where
  pub kind : 3 < n → kind_of e.kind ≡ Some k
  pub fields : FieldsPassed k e n
  pub value : 10 < n → ValueFits k e

none_before : (e : Event) (room : ℕ) (k : kinds.Kind) (n : ℕ) → n ≤ 18 → Passed e k n → (g : PackFault) → (pack_code g).number < n → PackRefused e room g → ⊥
none_before e room k n most p Kind l h =
    let f = p.kind l in
    let z : ◌≡◌ {A = ℕ} 0 1 = cc in
    omega arith
none_before e room k n most p (Field f) l h =
    fields_before k e n p.fields f l (subst (λ (m : ℕ). FieldRefused m e f) (map_known e.kind k (p.kind (omega (arith, field_late f)))) h)
none_before e room k n most p Value l h =
    let s : Stands (map_of k) 4 = subst (λ (m : ℕ). Stands m 4) (map_known e.kind k (p.kind (omega arith))) h.0 in
    omega (arith, p.value l s, h.1)
none_before e room k n most p Short l h = omega arith

module _ (e : Event) (room : ℕ) (k : kinds.Kind) (kind : kind_of e.kind ≡ Some k) (fields : FieldsFit k e) (value : ValueFits k e) where
  before_short : Passed e k 18
  before_short = search rules

  pub short_comes : room < 16 → Comes (λ g. (pack_code g).number) (PackRefused e room) Short
  short_comes h = record { holds = h; first = none_before e room k 18 (lit≤ tt) before_short }

  pub none_packs : 16 ≤ room → NoneHolds (PackRefused e room)
  none_packs h Kind r = none_before e room k 18 (lit≤ tt) before_short Kind (lit< tt) r
  none_packs h (Field f) r = none_before e room k 18 (lit≤ tt) before_short (Field f) (omega (arith, field_most f)) r
  none_packs h Value r = none_before e room k 18 (lit≤ tt) before_short Value (lit< tt) r
  none_packs h Short r = omega arith
