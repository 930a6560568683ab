use Rattle.std.proofs.Common.{◌≡◌, ◌++◌, string_bytes, drop}
use Rattle.serde_json.specs.View.{items_view, members_view}
use Rattle.imp_rules.specs.Content.{spaced}
use Rattle.imp_json.specs.Strings.{item_strings, member_strings}
use Rattle.imp_json.proofs.strings.+push.Given as goal

-- what is there, and what the rest adds, is the whole

abbrev pub invariant-push_items-loop-item : goal.invariant-push_items-loop-item
invariant-push_items-loop-item l =
    string_bytes l.text ++ spaced (item_strings (items_view (drop l.item-index l.item-items)))
    ≡ string_bytes l.fn.text ++ spaced (item_strings (items_view l.fn.items.items))

abbrev pub invariant-push_members-loop-member : goal.invariant-push_members-loop-member
invariant-push_members-loop-member l =
    string_bytes l.text ++ spaced (member_strings (members_view l.member-iterator))
    ≡ string_bytes l.fn.text ++ spaced (member_strings (members_view l.fn.members.entries))
