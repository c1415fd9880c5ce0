-- What files in memory are set to do, and what they answer.
use Rattle.std.specs.Prelude.{◌≡◌, ℕ, List, Result, Ok, Err}
use Rattle.va_io.specs.Calls.{Fails}
use Rattle.va_io.specs.Outside.{one_more}
use Rattle.va_io.specs.declared.files.FileErr.{FileErr}
use Rattle.va_io.specs.declared.files.FileErr.TheVariants as file_err
use Rattle.va_io.specs.declared.mem_files.MemFiles.{MemFiles}

-- the numbers of the reads that are to fail
abbrev pub listed_reads : MemFiles → List ℕ
listed_reads files = files.calls.listed.items

-- how many reads there were
abbrev pub reads_made : MemFiles → ℕ
reads_made files = files.calls.made

-- the next read fails
abbrev pub NextReadFails : MemFiles → Type 0
NextReadFails files = Fails (listed_reads files) (one_more (reads_made files))

-- one read more, and the same ones are to fail
pub record MakesRead (before now : MemFiles) : Type 0 where
  pub made : reads_made now ≡ one_more (reads_made before)
  pub listed : listed_reads now ≡ listed_reads before

-- a read answers Failed exactly where it is to fail, and else Missing exactly where the file is lacking; want of memory
-- alone is free
abbrev pub HasCause : {T : Type 0} → Type 0 → Type 0 → Result T FileErr → Type 0
HasCause fails lacks (Ok bytes) = (fails → ⊥) × (lacks → ⊥)
HasCause fails lacks (Err file_err.Missing) = (fails → ⊥) × lacks
HasCause fails lacks (Err file_err.Failed) = fails
HasCause fails lacks (Err file_err.NoMemory) = Unit {0}
