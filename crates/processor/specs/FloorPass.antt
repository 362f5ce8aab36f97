-- One pass over what left in a run, for the floor of one line. This is for the proofs of the code; no public contract cites it.
use Rattle.std.specs.Prelude.{ℕ, max, cond, replicate, slice_index_or, slice_set}
use Rattle.processor.specs.Departures.{fences, writes, set_after, raised}
use Rattle.processor.specs.declared.departures.Departure.{Departure}
use Rattle.processor.specs.declared.entries.Entry.{Entry}
use Rattle.processor.specs.declared.floors.LineFlushes.{LineFlushes}
use Rattle.processor.specs.declared.floors.ThreadFlushes.{ThreadFlushes}

abbrev pub no_flushes : ThreadFlushes
no_flushes = record { fence = 0; write = 0; mark = 0 }

abbrev pub unflushed : LineFlushes
unflushed = record { floor = 0; threads = replicate 4 no_flushes }

-- an entry of the thread leaves at moment k
abbrev pub noted : ℕ → Entry → ℕ → ThreadFlushes → ThreadFlushes
noted n e k f = record { fence = cond (fences e) k f.fence; write = cond (writes n e) k f.write; mark = set_after n e f.mark (max f.fence f.write) }

abbrev pub thread_at : LineFlushes → ℕ → ThreadFlushes
thread_at s t = slice_index_or s.threads t no_flushes

-- one more leaves
abbrev pub passed : ℕ → Departure → LineFlushes → LineFlushes
passed n d s = record {
  floor = raised n d.entry d.moment (thread_at s d.thread).mark s.floor;
  threads = slice_set s.threads d.thread (noted n d.entry d.moment (thread_at s d.thread));
}
