-- What an entry names.
use Rattle.std.specs.Prelude.{◌<◌}
use Rattle.processor.specs.Memory.{InLine}
use Rattle.processor.specs.declared.entries.Entry.{Entry}
use Rattle.processor.specs.declared.entries.Entry.TheVariants.{Store, StrongFlush, WeakFlush, StoreFence}

-- an entry names bytes of one line, or a line that there is
abbrev pub Fits : Entry → Type 0
Fits (Store x) = InLine x
Fits (StrongFlush n) = n < 64
Fits (WeakFlush n) = n < 64
Fits StoreFence = Unit {0}
