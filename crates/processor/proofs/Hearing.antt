-- What a message that is read asks is in range.
use Rattle.std.proofs.Common.{◌≡◌, ℕ, ◌+◌, ◌%◌, ◌<◌, ◌≤◌, List, Some, None, Ok, Option, sym, refl, ap, ◌∙◌, subst, inl, inr, arith}
use Rattle.std.proofs.lemmas.Bool.{cases_eq, cases_lt}
use Rattle.message.specs.Fields.{IsWidth}
use Rattle.message.specs.Format.{Stands, map_at, field}
use Rattle.message.specs.Kinds.{kind_of, map_of, map_for}
use Rattle.message.specs.Reading.{Reading, Refused, event_of}
use Rattle.message.specs.Refusals.{NoneHolds}
use Rattle.message.specs.declared.faults.FieldFault.TheVariants.{Thread, Address, Width, Unaligned}
use Rattle.message.specs.declared.faults.MessageFault.TheVariants as faults
use Rattle.message.specs.declared.events.Event.{Event}
use Rattle.message.specs.declared.kinds.Kind.{Kind}
use Rattle.message.specs.declared.kinds.Kind.TheVariants as kind
use Rattle.message.specs.declared.known.KnownEvent.{KnownEvent}
use Rattle.processor.specs.Memory.{InLine}
use Rattle.processor.specs.Logging.{Heard}
use Rattle.processor.specs.Operations.{access_of, operation, InRange}

-- ── a number that is not refused ──
not_above : (n k : ℕ) → (k < n → ⊥) → n ≤ k
not_above n k h = elim (cases_lt k n) [ inl l ↦ absurd (h l) | inr l ↦ l ]

not_apart : (n k : ℕ) → ((n ≡ k → ⊥) → ⊥) → n ≡ k
not_apart n k h = elim (cases_eq n k) [ inl e ↦ e | inr e ↦ absurd (h e) ]

is_width : (w : ℕ) → ((IsWidth w → ⊥) → ⊥) → IsWidth w
is_width w h = elim (cases_eq w 1) [
  | inl e ↦ inl (inl e)
  | inr a ↦ elim (cases_eq w 2) [
    | inl e ↦ inl (inr e)
    | inr b ↦ elim (cases_eq w 4) [
      | inl e ↦ inr (inl e)
      | inr c ↦ elim (cases_eq w 8) [
        | inl e ↦ inr (inr e)
        | inr d ↦ absurd (h (λ i. elim i [ inl p ↦ elim p [ inl e ↦ a e | inr e ↦ b e ] | inr p ↦ elim p [ inl e ↦ c e | inr e ↦ d e ] ]))
      ]
    ]
  ]
]

in_one_line : (a w : ℕ) → IsWidth w → a % w ≡ 0 → (a % 64 + w ≤ 64) × (w ≤ 8)
in_one_line a w (inl (inl e)) z = (omega arith, omega arith)
in_one_line a w (inl (inr e)) z = let y : a % 2 ≡ 0 = subst (λ k. a % k ≡ 0) e z in (omega arith, omega arith)
in_one_line a w (inr (inl e)) z = let y : a % 4 ≡ 0 = subst (λ k. a % k ≡ 0) e z in (omega arith, omega arith)
in_one_line a w (inr (inr e)) z = let y : a % 8 ≡ 0 = subst (λ k. a % k ≡ 0) e z in (omega arith, omega arith)

-- ── a message that is read, of kind k ──
module _ (b : List ℕ) (read : NoneHolds (Refused b)) (k : Kind) (known : kind_of (field b 0) ≡ Some k) where
  its_map : map_at b ≡ map_of k
  its_map = sym (not_apart (map_for (field b 0)) (map_at b) (read faults.MapOfKind)) ∙ ap (λ (o : Option Kind). elim o [ None ↦ 0 | Some j ↦ map_of j ]) known

  stands : (n : ℕ) → Stands (map_of k) n → Stands (map_at b) n
  stands n h = subst (λ m. Stands m n) (sym its_map) h

  a_thread : Stands (map_of k) 1 → (event_of b).thread < 4
  a_thread h = let l = not_above (event_of b).thread 3 (λ l. read (faults.Field Thread) (stands 1 h, l)) in omega arith

  an_address : Stands (map_of k) 2 → (event_of b).address < 4096
  an_address h = let l = not_above (event_of b).address 4095 (λ l. read (faults.Field Address) (stands 2 h, l)) in omega arith

  an_access : Stands (map_of k) 2 → Stands (map_of k) 3 → InLine (access_of (event_of b))
  an_access h j =
      let e = event_of b in
      let fits = in_one_line e.address e.width (is_width e.width (λ n. read (faults.Field Width) (stands 3 j, n))) (not_apart (e.address % e.width) 0 (λ n. read (faults.Field Unaligned) (stands 3 j, n))) in
      (an_address h, fits.0, fits.1)

pub in_its_range : (b : List ℕ) → NoneHolds (Refused b) → (k : Kind) → kind_of (field b 0) ≡ Some k → InRange (operation k (event_of b))
in_its_range b read kind.Store known = (a_thread b read kind.Store known refl, an_access b read kind.Store known refl refl)
in_its_range b read kind.StrongFlush known = (a_thread b read kind.StrongFlush known refl, let l = an_address b read kind.StrongFlush known refl in omega arith)
in_its_range b read kind.WeakFlush known = (a_thread b read kind.WeakFlush known refl, let l = an_address b read kind.WeakFlush known refl in omega arith)
in_its_range b read kind.StoreFence known = (a_thread b read kind.StoreFence known refl, tt)
in_its_range b read kind.FullFence known = a_thread b read kind.FullFence known refl
in_its_range b read kind.Drain known = a_thread b read kind.Drain known refl
in_its_range b read kind.Load known = (a_thread b read kind.Load known refl, an_access b read kind.Load known refl refl)
in_its_range b read kind.PowerCut known = tt

-- ── the event that was read ──
module _ (b : List ℕ) (k : KnownEvent) (r : Reading b (Ok k.event)) where
  same_kind : kind_of (field b 0) ≡ Some k.kind
  same_kind = ap (λ (x : Event). kind_of x.kind) (sym r.1) ∙ k.known

  pub heard : Heard b k
  heard = record { read = r; in_range = subst (λ (x : Event). InRange (operation k.kind x)) (sym r.1) (in_its_range b r.0 k.kind same_kind) }
