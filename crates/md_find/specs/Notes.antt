-- A report that what became of files is added to.
use Rattle.std.specs.Prelude.{List}
use Rattle.md_files.specs.Additions.{counted_all}
use Rattle.md_files.specs.Findings.{Finding}
use Rattle.md_files.specs.Reports.{FileReport}

-- with the lines on these findings and the end that they make, and the same text for out
abbrev pub noted_all : FileReport → List Finding → FileReport
noted_all report findings = record (counted_all report findings) { out = report.out }
