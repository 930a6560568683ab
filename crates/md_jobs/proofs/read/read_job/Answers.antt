use Rattle.md_jobs.proofs.Reading.{import_made}
use Rattle.md_jobs.proofs.read.read_job.Goals as goal

pub returns-in_ok-read_file-in-Import-clause-made : goal.returns-in_ok-read_file-in-Import-clause-made
returns-in_ok-read_file-in-Import-clause-made g c =
    import_made _ _ _ c.args.start.now.moment c.args.start.now.offset c.args.line.now c.in-Import.path _ c.in_ok-read_file-in-Import.field-0 c.in-Import.is c.in_ok-copied-in-Import.ensures c.in_ok-read_file-in-Import.ensures.asked
