-- What contracts see of the adapters over readers and writers, the folder and the machine's clock.
use Rattle.std.specs.Prelude.{ℕ}
use Rattle.md_source.specs.declared.adapters.Reading.{Reading}
use Rattle.md_source.specs.declared.adapters.Writing.{Writing}
use Rattle.md_source.specs.declared.folder.Folder.{Folder}
use Rattle.md_source.specs.declared.machine_clock.MachineClock.{MachineClock}

-- the reader that the bytes come from
abbrev pub reader_of : {R : Type 0} → Reading R → R
reader_of r = r.inner

-- how often the reader has failed
abbrev pub reader_failures : {R : Type 0} → Reading R → ℕ
reader_failures r = r.failures

-- the writer that the bytes go to
abbrev pub writer_of : {W : Type 0} → Writing W → W
writer_of w = w.inner

-- the room that was reserved
abbrev pub writer_spare : {W : Type 0} → Writing W → ℕ
writer_spare w = w.spare

-- how often the writer has failed
abbrev pub writer_failures : {W : Type 0} → Writing W → ℕ
writer_failures w = w.failures

-- how often the folder has failed
abbrev pub folder_failures : {R : Type 0} → Folder R → ℕ
folder_failures f = f.failures

-- how often the clock has failed
abbrev pub clock_failures : {R : Type 0} → MachineClock R → ℕ
clock_failures c = c.failures
