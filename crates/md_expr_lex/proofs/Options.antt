-- What an answer that is there tells of how it was made.
use Rattle.std.proofs.Common.{◌≡◌, Bool, true, false, ◌&&◌, cond, Option, Some, None, refl}
use Rattle.std.specs.Option.{option_map, option_and_then}

pub chosen : {A : Type 0} (b : Bool) (o : Option A) (x : A) → cond b o None ≡ Some x → (b ≡ true) × (o ≡ Some x)
chosen true o x e = (refl, e)
chosen false o x e = cc

pub passed : {A : Type 0} (b : Bool) (o : Option A) (x : A) → cond b None o ≡ Some x → (b ≡ false) × (o ≡ Some x)
passed true o x e = cc
passed false o x e = (refl, e)

pub bound : {A B : Type 0} (f : A → Option B) (o : Option A) (x : B) → option_and_then f o ≡ Some x → (y : A) × (o ≡ Some y) × (f y ≡ Some x)
bound f None x e = cc
bound f (Some y) x e = (y, refl, e)

pub same : {A : Type 0} (x y : A) → Some x ≡ Some y → x ≡ y
same x y e = cc

pub mapped : {A B : Type 0} (f : A → B) (o : Option A) (x : B) → option_map f o ≡ Some x → (y : A) × (o ≡ Some y) × (f y ≡ x)
mapped f None x e = cc
mapped f (Some y) x e = (y, refl, same (f y) x e)
