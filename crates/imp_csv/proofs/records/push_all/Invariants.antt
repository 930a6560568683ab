use Rattle.std.proofs.Common.{◌≡◌, ◌++◌, drop, string_bytes}
use Rattle.imp_rules.specs.Content.{spaced}
use Rattle.imp_csv.proofs.records.push_all.Given as goal

-- what is there, and what the rest adds, is the whole
abbrev pub invariant-loop-place : goal.invariant-loop-place
invariant-loop-place l = string_bytes l.text ++ spaced (drop l.place l.fields) ≡ string_bytes l.fn.text ++ spaced l.fields
