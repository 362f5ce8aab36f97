-- The kinds of message: the number and the bit map of each.
use Rattle.std.specs.Prelude.{◌≡◌, ℕ, List, [], ◌∷◌, Some, None, Option, Result, MatchResult, slice_index_or}
use Rattle.message.specs.declared.kinds.Kind.{Kind}
use Rattle.message.specs.declared.kinds.UnknownKind.{UnknownKind}
use Rattle.message.specs.declared.kinds.Kind.TheVariants.{Store, StrongFlush, WeakFlush, StoreFence, FullFence, Drain, Load, PowerCut}

abbrev pub number_of : Kind → ℕ
number_of Store = 1
number_of StrongFlush = 2
number_of WeakFlush = 3
number_of StoreFence = 4
number_of FullFence = 5
number_of Drain = 6
number_of Load = 7
number_of PowerCut = 8

abbrev pub map_of : Kind → ℕ
map_of Store = 31
map_of StrongFlush = 7
map_of WeakFlush = 7
map_of StoreFence = 3
map_of FullFence = 3
map_of Drain = 3
map_of Load = 31
map_of PowerCut = 1

-- the kinds by their numbers; none has number 0
abbrev pub kinds : List (Option Kind)
kinds = None ∷ Some Store ∷ Some StrongFlush ∷ Some WeakFlush ∷ Some StoreFence ∷ Some FullFence ∷ Some Drain ∷ Some Load ∷ Some PowerCut ∷ []

-- the kind that has a number, if any has
abbrev pub kind_of : ℕ → Option Kind
kind_of n = slice_index_or kinds n None

-- the map of the kind that has a number, 0 where none has
abbrev pub map_for : ℕ → ℕ
map_for n = elim (kind_of n) [ None ↦ 0 | Some k ↦ map_of k ]

-- what a number is turned into: the kind that has it, or the number itself where none has
abbrev pub NumberGives : ℕ → Result Kind UnknownKind → Type 0
NumberGives n r = MatchResult r (λ k. kind_of n ≡ Some k) (λ u. (kind_of n ≡ None) × (u.0 ≡ n))
