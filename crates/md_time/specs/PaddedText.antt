-- How an ISO text is held.
use Rattle.std.specs.Prelude.{◌≡◌, ℕ, ◌-◌, List, ◌++◌, length, take, IsTrue, IsUtf8}
use Rattle.std.proofs.Math.ListN.{replicate}
use Rattle.md_time.specs.IsoTexts.{is_iso}

-- the text with zero bytes after it, 25 bytes in all
abbrev pub padded : List ℕ → List ℕ
padded text = text ++ replicate (25 - length text) 0

-- the first `len` bytes are an ISO text, and the bytes after it are zero
pub record IsPadded (bytes : List ℕ) (len : ℕ) : Type 0 where
  pub len_is : length (take len bytes) ≡ len
  pub bytes_are : padded (take len bytes) ≡ bytes
  pub iso : IsTrue (is_iso (take len bytes))
  pub utf8 : IsUtf8 (take len bytes)
