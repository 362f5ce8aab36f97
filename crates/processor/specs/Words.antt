-- The words in which faults and sources are told, and the numbers by which entries are.
use Rattle.std.specs.Prelude.{ℕ, ◌++◌, List, Some, None, Option, codes}
use Rattle.std.specs.Fmt.{decimal}
use Rattle.message.specs.Words.{message_words}
use Rattle.processor.specs.declared.faults.BufferFault.{BufferFault}
use Rattle.processor.specs.declared.faults.BufferFault.TheVariants.{Message, Full, Empty}
use Rattle.processor.specs.declared.faults.CaseFault.{CaseFault}
use Rattle.processor.specs.declared.faults.CaseFault.TheVariants.{Buffer, Moments, Loads, Cuts}
use Rattle.processor.specs.declared.entries.Entry.{Entry}
use Rattle.processor.specs.declared.entries.Entry.TheVariants as entry
use Rattle.processor.specs.declared.sources.Source.{Source}
use Rattle.processor.specs.declared.sources.Source.TheVariants.{Waiting, Cached}
use Rattle.processor.specs.declared.words.EntryName.{EntryName}
use Rattle.processor.specs.declared.words.EntryName.TheVariants as name

abbrev pub buffer_words : BufferFault → List ℕ
buffer_words (Message f) = message_words f
buffer_words (Full t) = codes "8 entries wait in its thread's buffer"
buffer_words (Empty t) = codes "no entry waits in its thread's buffer"

abbrev pub case_words : CaseFault → List ℕ
case_words (Buffer f) = buffer_words f
case_words (Moments r) = codes "the moments do not suffice"
case_words (Loads r) = codes "256 loads are kept"
case_words (Cuts r) = codes "four cuts were made"

-- the byte, and the store that gives it
abbrev pub source_words : Source → List ℕ
source_words (Waiting b) = decimal b ++ codes " from a waiting store"
source_words (Cached k b) = decimal b ++ (codes " from the store at moment " ++ decimal k)

abbrev pub found_words : Option Source → List ℕ
found_words None = codes "no store of this run"
found_words (Some s) = source_words s

-- every number of an entry
abbrev pub entry_name : Entry → EntryName
entry_name (entry.Store x) = name.Store x.address x.width x.value
entry_name (entry.StrongFlush n) = name.StrongFlush n
entry_name (entry.WeakFlush n) = name.WeakFlush n
entry_name entry.StoreFence = name.StoreFence
