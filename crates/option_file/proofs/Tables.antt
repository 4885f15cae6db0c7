-- From the bytes to the table.
use Rattle.std.proofs.Common.{◌≡◌, ℕ, ◌≤◌, List, length, Some, None, refl, inl, inr}
use Rattle.std.proofs.lemmas.Bool.{cases_Bool, le-ltb}
use Rattle.std.proofs.lemmas.Str.{IsUtf8-from_is_utf8, is_utf8-from_IsUtf8}
use Rattle.std.specs.Prelude.{IsUtf8}
use Rattle.std.specs.Str.{is_utf8}
use Rattle.toml.specs.Data.{Members}
use Rattle.toml.specs.Parse.{parse_document}
use Rattle.option_file.specs.Limits.{file_limit}
use Rattle.option_file.specs.Refusals.{document_refusal, table_in}
use Rattle.option_file.specs.declared.refused.OptionRefused.TheVariants.{NotToml}

pub document-read : (bytes : List ℕ) (table : Members) → length bytes ≤ file_limit → IsUtf8 bytes → parse_document bytes ≡ Some table
    → (document_refusal bytes ≡ None) × (table ≡ table_in bytes)
document-read bytes table short text same =
    (rw (le-ltb file_limit (length bytes) short, is_utf8-from_IsUtf8 bytes text, same) refl, rw (is_utf8-from_IsUtf8 bytes text, same) refl)

pub document-unread : (bytes : List ℕ) → length bytes ≤ file_limit → parse_document bytes ≡ None → document_refusal bytes ≡ Some NotToml
document-unread bytes short same =
    elim (cases_Bool (is_utf8 bytes)) [
      | inl text ↦ rw (le-ltb file_limit (length bytes) short, text, same) refl
      | inr other ↦ rw (le-ltb file_limit (length bytes) short, other) refl
    ]

pub document-no_text : (bytes : List ℕ) → length bytes ≤ file_limit → ¬ (IsUtf8 bytes) → document_refusal bytes ≡ Some NotToml
document-no_text bytes short none =
    elim (cases_Bool (is_utf8 bytes)) [
      | inl text ↦ absurd (none (IsUtf8-from_is_utf8 bytes text))
      | inr other ↦ rw (le-ltb file_limit (length bytes) short, other) refl
    ]
