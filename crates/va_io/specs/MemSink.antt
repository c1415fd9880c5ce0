-- What a sink in memory is set to do.
use Rattle.std.specs.Prelude.{◌≡◌, ℕ, List}
use Rattle.va_io.specs.Calls.{Fails}
use Rattle.va_io.specs.Outside.{one_more}
use Rattle.va_io.specs.declared.mem_sink.MemSink.{MemSink}

-- the numbers of the writes that are to fail
abbrev pub listed_writes : MemSink → List ℕ
listed_writes sink = sink.calls.listed.items

-- how many writes there were
abbrev pub writes_made : MemSink → ℕ
writes_made sink = sink.calls.made

-- the most that one write takes
abbrev pub most_taken : MemSink → ℕ
most_taken sink = sink.take

-- the next write fails
abbrev pub NextWriteFails : MemSink → Type 0
NextWriteFails sink = Fails (listed_writes sink) (one_more (writes_made sink))

-- one write more, and the same settings
pub record MakesWrite (before now : MemSink) : Type 0 where
  pub made : writes_made now ≡ one_more (writes_made before)
  pub listed : listed_writes now ≡ listed_writes before
  pub most : most_taken now ≡ most_taken before

-- no write, and the same settings
pub record MakesNoWrite (before now : MemSink) : Type 0 where
  pub made : writes_made now ≡ writes_made before
  pub listed : listed_writes now ≡ listed_writes before
  pub most : most_taken now ≡ most_taken before
