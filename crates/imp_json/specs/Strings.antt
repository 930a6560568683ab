-- The strings of a JSON value.
use Rattle.std.specs.Prelude.{ℕ, List, [], ◌∷◌, ◌++◌}
use Rattle.serde_json.specs.Data.{Data, null, boolean, number, string, array, object, Items, no_items, item, Members, no_members, member}

-- all string values, not keys, depth first: the members of an object by ascending key, those of an array in order
abbrev mutual
  pub strings : Data → List (List ℕ)
  strings null = []
  strings (boolean b) = []
  strings (number n) = []
  strings (string s) = s ∷ []
  strings (array ds) = item_strings ds
  strings (object ms) = member_strings ms

  pub item_strings : Items → List (List ℕ)
  item_strings no_items = []
  item_strings (item d ds) = strings d ++ item_strings ds

  pub member_strings : Members → List (List ℕ)
  member_strings no_members = []
  member_strings (member k d ms) = strings d ++ member_strings ms
