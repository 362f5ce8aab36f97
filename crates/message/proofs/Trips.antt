-- From what the checks find to what reading and packing answer.
use Rattle.std.proofs.Common.{◌≡◌, ℕ, ◌+◌, ◌^◌, ◌<◌, ◌≤◌, List, ◌++◌, length, get_or, take, drop, IfOk, Some, Ok, Err, Result, sym, refl, ap, ◌∙◌, subst, inl, inr, arith, lit≤, MatchResult}
use Rattle.std.proofs.lemmas.List.{get_or_past, get_or-take, get_or-drop, length-take, length-drop, take_at}
use Rattle.std.proofs.lemmas.Bool.{cases_lt}
use Rattle.message.specs.Checks.{event_at, bytes_at, FieldsFit, ValueFits, Decodes, NotDecoded, Encodes}
use Rattle.message.specs.Faults.{pack_code}
use Rattle.message.specs.Format.{Stands, fields_end, little, map_at, Zeros}
use Rattle.message.specs.Kinds.{kind_of, map_of, map_for}
use Rattle.message.specs.KnownEvents.{ReadingKnown}
use Rattle.message.specs.Packing.{within, carried, laid, message_of, PackRefused, Packing}
use Rattle.message.specs.Reading.{event_of, Reading}
use Rattle.message.specs.Refusals.{Comes}
use Rattle.message.specs.Trips.{ReadsBack, PacksBack}
use Rattle.message.specs.declared.events.Event.{Event}
use Rattle.message.specs.declared.faults.MessageFault.{MessageFault}
use Rattle.message.specs.declared.faults.PackFault.{PackFault}
use Rattle.message.specs.declared.faults.PackFault.TheVariants.{Short}
use Rattle.message.specs.declared.kinds.Kind as kinds
use Rattle.message.specs.declared.known.KnownEvent.{KnownEvent}
use Rattle.message.proofs.FieldOrders.{map_known}
use Rattle.message.proofs.Numbers.{Bytes, little_below}
use Rattle.message.proofs.Orders.{comes, none_holds, event_same}
use Rattle.message.proofs.PackOrders.{none_packs, short_comes}
use Rattle.message.proofs.PackReads.{laid_places, read_back, decodes, long}
use Rattle.message.proofs.Places.{of_maps, eight}
use Rattle.message.proofs.ReadPacks.{laid_again, within_again, part_bytes}

-- what `decode` says of its answer
abbrev pub Decoding : List ℕ → Result KnownEvent MessageFault → Type 0
Decoding b r = MatchResult r (λ k. (k.event ≡ event_at b) × Decodes b k.kind) (λ f. NotDecoded b f)

-- no more than sixteen bytes, whatever the kind
ends : (k : kinds.Kind) → fields_end (map_of k) ≤ 16
ends = of_maps (λ m. fields_end m ≤ 16) (lit≤ tt) (lit≤ tt) (lit≤ tt) (lit≤ tt)

module _ (b : List ℕ) (whole : length b ≡ 16) (bytes : Bytes b) where
  pub reading : (r : Result KnownEvent MessageFault) → Decoding b r → ReadingKnown b r
  reading (Ok k) d = (none_holds b whole k.kind d.1, d.0 ∙ event_same b whole k.kind d.1)
  reading (Err f) d = comes b whole (bytes 0) f d

  -- the value takes no more bytes than the width
  value_fits : (k : kinds.Kind) → Decodes b k → Stands (map_of k) 4 → little (take 8 (drop 6 b)) < 256 ^ get_or b 5 0
  value_fits k d s =
      little_below (take 8 (drop 6 b)) (get_or b 5 0) (part_bytes b whole bytes 6 8 (omega arith))
      (λ i l. elim (cases_lt i 8) [
        | inl small ↦ get_or-take 8 (drop 6 b) i 0 small ∙ get_or-drop 6 b i 0 ∙ d.beyond s (6 + i) (omega arith) (omega arith)
        | inr large ↦ get_or_past (take 8 (drop 6 b)) i 0 (omega (arith, length-take 8 (drop 6 b), length-drop 6 b))
      ])

  module _ (k : kinds.Kind) (d : Decodes b k) where
    same : event_at b ≡ event_of b
    same = event_same b whole k d

    kind-known : kind_of (event_of b).kind ≡ Some k
    kind-known = ap (λ (e : Event). kind_of e.kind) (sym same) ∙ d.head.0

    map_back : map_for (event_of b).kind ≡ map_at b
    map_back = map_known (event_of b).kind k kind-known ∙ sym d.head.1

    fields_fit : FieldsFit k (event_of b)
    fields_fit = subst (λ (e : Event). FieldsFit k e) same d.fields

    value-fit : ValueFits k (event_of b)
    value-fit =
        subst (λ (e : Event). ValueFits k e) same
        (λ s. subst (λ (v : ℕ). v < 256 ^ get_or b 5 0) (eight b whole) (value_fits k d s))

    message-back : message_of (event_of b) ≡ b
    message-back =
        let filler : Zeros b (fields_end (map_at b)) 16 = subst (λ (m : ℕ). Zeros b (fields_end m) 16) (sym d.head.1) d.filler in
        let end : fields_end (map_at b) ≤ 16 = subst (λ (m : ℕ). fields_end m ≤ 16) (sym d.head.1) (ends k) in
        ap (λ (m : ℕ). laid m (event_of b)) map_back ∙ laid_again b whole bytes (map_at b) refl end filler

    carried-back : carried (event_of b) ≡ event_of b
    carried-back = ap (λ (m : ℕ). within m (event_of b)) map_back ∙ within_again (map_at b) b

    packs-event : PacksBack b (event_of b)
    packs-event = record {
      whole = carried-back;
      packs = λ memory room. (none_packs (event_of b) (length memory) k kind-known fields_fit value-fit room, ap (λ (x : List ℕ). x ++ drop 16 memory) (sym message-back));
    }

    pub packs-back : PacksBack b (event_at b)
    packs-back = subst (λ (e : Event). PacksBack b e) (sym same) packs-event

  pub packing_back : (r : Result KnownEvent MessageFault) → Decoding b r → IfOk r (λ k. PacksBack b k.event)
  packing_back (Ok k) d = subst (λ (x : Event). PacksBack b x) (sym d.0) (packs-back k.kind d.1)
  packing_back (Err f) d = tt

-- what was packed
module _ (e : Event) (k : kinds.Kind) (bytes : List ℕ) (enc : Encodes e k bytes) where
  known : map_for e.kind ≡ map_of k
  known = map_known e.kind k enc.kind

  places : bytes_at (map_of k) (within (map_of k) e) ≡ laid (map_of k) e
  places = laid_places e k enc.kind enc.fields enc.value

  message_is : bytes ≡ message_of e
  message_is = enc.bytes ∙ places ∙ sym (ap (λ (m : ℕ). laid m e) known)

  reads_back : Reading bytes (Ok (carried e))
  reads_back =
      let b = laid (map_of k) e in
      let d : Decodes b k = decodes e k enc.kind enc.fields enc.value in
      let r : Reading b (Ok (within (map_of k) e)) = (none_holds b (long e k enc.kind enc.fields enc.value) k d, sym (read_back e k enc.kind enc.fields enc.value)) in
      let s : Reading b (Ok (carried e)) = subst (λ (m : ℕ). Reading b (Ok (within m e))) (sym known) r in
      subst (λ (x : List ℕ). Reading x (Ok (carried e))) (sym (enc.bytes ∙ places)) s

  room_comes : (room : ℕ) (f : PackFault) → f ≡ Short → room < 16 → Comes (λ g. (pack_code g).number) (PackRefused e room) f
  room_comes room f is short =
      subst (λ (g : PackFault). Comes (λ h. (pack_code h).number) (PackRefused e room) g) (sym is) (short_comes e room k enc.kind enc.fields enc.value short)

  -- the caller's memory after the message was written to its front, or was refused for want of room
  pub written : (before after : List ℕ) (r : Result (Unit {0}) PackFault) → MatchResult r (λ _. (16 ≤ length before) × (after ≡ bytes ++ drop 16 before)) (λ f. (f ≡ Short) × (length before < 16) × (after ≡ before)) → Packing e before after r × IfOk r (λ _. ReadsBack e after)
  written before after (Ok _) w =
      let sixteen : length bytes ≡ 16 = ap length enc.bytes in
      let first : bytes ≡ take 16 after = sym (ap (take 16) w.1 ∙ take_at bytes (drop 16 before) 16 sixteen) in
      ((none_packs e (length before) k enc.kind enc.fields enc.value w.0, w.1 ∙ ap (λ (x : List ℕ). x ++ drop 16 before) message_is), subst (λ (x : List ℕ). Reading x (Ok (carried e))) first reads_back)
  written before after (Err f) w = ((room_comes (length before) f w.0 w.1, w.2), tt)
