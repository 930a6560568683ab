use Rattle.std.proofs.Common.{rules, ◌≡◌, chars}
use Rattle.std.proofs.lemmas.Bool.Decides.{Decides-at}
use Rattle.md_text.specs.Key.{key}
use Rattle.md_text.specs.Wild.{wild}
use Rattle.md_text.proofs.Wilds.{wild-Decides}
use Rattle.md_text.proofs.pattern.Pattern.matches.Goals as goal

pub returns-then-is_own_key-clause-relation : goal.returns-then-is_own_key-clause-relation
returns-then-is_own_key-clause-relation c =
    let computed : c.is_wild.result ≡ wild c.args.self.now (key c.args.fold c.args.marks (chars c.args.text.now)) = search rules in
    Decides-at _ _ computed (wild-Decides _ _)

pub returns-clause-relation : goal.returns-clause-relation
returns-clause-relation c =
    let computed : c.is_wild-2.result ≡ wild c.args.self.now (key c.args.fold c.args.marks (chars c.args.text.now)) = search rules in
    Decides-at _ _ computed (wild-Decides _ _)
