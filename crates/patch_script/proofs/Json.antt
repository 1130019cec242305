use Rattle.std.proofs.Common.{◌≡◌, List, ℕ, Some, None, Bool, true, false, refl, cond, IsUtf8}
use Rattle.std.specs.Str.{is_utf8}
use Rattle.std.proofs.lemmas.Str.{is_utf8-from_IsUtf8, IsUtf8-from_is_utf8}
use Rattle.serde_json.specs.Data.{Data}
use Rattle.serde_json.specs.Read.{read}
use Rattle.patch_script.specs.Kind.{json_of}

pub json_of_value : (bytes : List ℕ) (d : Data) → IsUtf8 bytes → read bytes ≡ Some d → json_of bytes ≡ Some d
json_of_value bytes d text is = rw (is_utf8-from_IsUtf8 bytes text) is

none_of : (bytes : List ℕ) (b : Bool) → is_utf8 bytes ≡ b → (IsUtf8 bytes → read bytes ≡ None) → cond b (read bytes) None ≡ None
none_of bytes true e h = h (IsUtf8-from_is_utf8 bytes e)
none_of bytes false e h = refl

pub json_of_none : (bytes : List ℕ) → (IsUtf8 bytes → read bytes ≡ None) → json_of bytes ≡ None
json_of_none bytes h = none_of bytes (is_utf8 bytes) refl h
