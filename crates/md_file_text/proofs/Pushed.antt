-- What `push` and `push_str` append where they succeed.
use Rattle.std.proofs.Common.{◌≡◌, ℕ, List, ◌++◌, OnOk, Result, Ok, Err, if◌then◌else◌, is_ok}
use Rattle.std.specs.declared.alloc.AllocError.{AllocError}

pub pushed : (r : Result (Unit {0}) AllocError) (new old text : List ℕ) → new ≡ (if is_ok r then old ++ text else old) → OnOk r (new ≡ old ++ text)
pushed (Ok x) new old text h = h
pushed (Err e) new old text h = tt
