-- What stands at the front of bytes in the very text that is written for it.
use Rattle.std.specs.Prelude.{◌≡◌, ℕ, List, [], ◌++◌}
use Rattle.json_value.specs.Reading.{Parse, skip}
use Rattle.json_cursor.specs.Copying.{Copies}

-- This text stands at the front, and then the rest. It is what is written for what is read of it.
pub record Spans {A : Type 0} (read : Parse A) (written : A → List ℕ) (bytes rest : List ℕ) : Type 0 where
  pub span : List ℕ
  pub splits : bytes ≡ span ++ rest
  pub copied : Copies read written bytes rest [] span

-- This text stands at the front with no white space before it, and then the rest. It is what is written for what is read of it.
pub record SpansFirst {A : Type 0} (read : Parse A) (written : A → List ℕ) (bytes rest : List ℕ) : Type 0 where
  pub spans : Spans read written bytes rest
  pub first : skip bytes ≡ bytes
