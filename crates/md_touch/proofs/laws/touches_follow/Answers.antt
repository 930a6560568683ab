use Rattle.md_touch.proofs.Following.{starts_empty, follows_commits, survives_vacuums}
use Rattle.md_touch.proofs.laws.touches_follow.Goals as goal

pub returns-clause-start : goal.returns-clause-start
returns-clause-start c = starts_empty

pub returns-clause-commit : goal.returns-clause-commit
returns-clause-commit c = follows_commits

pub returns-clause-vacuum : goal.returns-clause-vacuum
returns-clause-vacuum c = survives_vacuums
