use Rattle.md_machine.proofs.Files.{versions_of_files, newest_of_files, replies_of_files, held_of_files}
use Rattle.md_machine.proofs.laws.files_ascend.Goals as goal

pub returns : goal.returns
returns c = record { versions = versions_of_files; newest = newest_of_files; replies = replies_of_files; held = held_of_files }
