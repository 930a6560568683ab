use Rattle.std.proofs.Common.{refl}
use Rattle.imp_kind.proofs.base.text_types.Goals as goal

pub returns : goal.returns
returns c =
    rw (
      c.in_ok-push_text-5.ensures,
      c.in_ok-push_text-4.ensures,
      c.in_ok-push_text-3.ensures,
      c.in_ok-push_text-2.ensures,
      c.in_ok-push_text.ensures,
      c.new-values.ensures,
    ) refl
