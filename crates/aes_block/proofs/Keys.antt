-- A key that keeps its schedule encrypts by the cipher of its bytes.
use Rattle.std.proofs.Common.{◌≡◌, ℕ, ◌+◌, ◌*◌, ◌/◌, ◌<◌, List, All, length, map, slice_index, sym, ap, ap₂, ◌∙◌, subst, arith}
use Rattle.std.proofs.lemmas.List.Elements.{All-from_get_or}
use Rattle.aes_block.specs.State.{Column, StateArray, IsBlock, state_of, block_of}
use Rattle.aes_block.specs.Rounds.{mix_column}
use Rattle.aes_block.specs.KeyExpansion.{expanded_key}
use Rattle.aes_block.specs.Cipher.{encrypted, cipher}
use Rattle.aes_block.specs.Schedule.{key_bytes, IsSchedule}
use Rattle.aes_block.proofs.Blocks.{block_of-state_of}
use Rattle.aes_block.proofs.OneToOne.{cipher_one_to_one}

abbrev IsByte : ℕ → Type 0
IsByte b = b < 256

module _ (key : List ℕ) (nk count : ℕ) (words unmixed : List Column) (kept : IsSchedule nk words unmixed) (seen : key_bytes nk words ≡ key) (rounds : count ≡ nk + 6) where
  pub cipher_is : (block : List ℕ) → block_of (encrypted words count (state_of block)) ≡ cipher key block
  unfolding cipher
  cipher_is block =
      let number : count ≡ length key / 4 + 6 = omega (arith, ap length seen, kept.size) in
      ap₂ (λ ws n. block_of (encrypted ws n (state_of block))) (kept.expanded ∙ ap expanded_key seen) number

  -- a state that the rounds make of the block's is the block's decryption
  pub decrypted : (block : List ℕ) (state before : StateArray) (left : List ℕ) → length block ≡ 16
      → before ≡ state_of block → encrypted words count state ≡ before → left ≡ block_of state → cipher key left ≡ block
  decrypted block state before left sixteen loaded made stored =
      ap (cipher key) stored ∙ sym (cipher_is (block_of state)) ∙ ap block_of (made ∙ loaded) ∙ block_of-state_of block sixteen

  -- and no other block is
  pub only_decryption : (block left other : List ℕ) → IsBlock left → cipher key left ≡ block → IsBlock other → cipher key other ≡ block → other ≡ left
  only_decryption block left other is_block undone other_is same =
      cipher_one_to_one key other left (subst (All IsByte) seen kept.bytes) other_is is_block (same ∙ sym undone)

-- a schedule that was made of a key
pub IsSchedule-expanded : (key : List ℕ) (nk : ℕ) (words unmixed : List Column) → length key ≡ 4 * nk → ((i : ℕ) → i < length key → slice_index key i < 256)
    → key_bytes nk words ≡ key → words ≡ expanded_key key → map mix_column unmixed ≡ words → IsSchedule nk words unmixed
IsSchedule-expanded key nk words unmixed size bytes seen made undone = record {
  size = ap length seen ∙ size;
  bytes = subst (All IsByte) (sym seen) (All-from_get_or IsByte key 0 bytes);
  expanded = made ∙ ap expanded_key (sym seen);
  undone = undone;
}
