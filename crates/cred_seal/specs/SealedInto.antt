-- What sealing into a room answers.
use Rattle.std.specs.Prelude.{ℕ, ⊤, List, drop, length}
use Rattle.std.specs.declared.option.Option.{Option}
use Rattle.std.specs.declared.option.Option.TheVariants.{None, Some}
use Rattle.munge_types.specs.Room.{Reserved}
use Rattle.cred_seal.specs.declared.sealing.SealRefused.{SealRefused}
use Rattle.cred_seal.specs.declared.sealing.SealRefused.TheVariants as refused
use Rattle.cred_seal.specs.declared.sealing.SealedInto.{SealedInto}
use Rattle.cred_seal.specs.declared.sealing.SealedInto.TheVariants.{Done, BadCipher, BadMac, BadLength}

-- the cause that an answer names, and none where it is sealed
abbrev pub refusal_told : SealedInto → Option SealRefused
refusal_told (Done room) = None
refusal_told (BadCipher room) = Some refused.BadCipher
refusal_told (BadMac room) = Some refused.BadMac
refusal_told (BadLength room size) = Some (refused.BadLength size)

-- where it is sealed, this holds of the room
abbrev pub IfDone : SealedInto → (Reserved → Type 0) → Type 0
IfDone (Done room) P = P room
IfDone (BadCipher room) P = ⊤
IfDone (BadMac room) P = ⊤
IfDone (BadLength room size) P = ⊤

-- where it is refused, this holds of the room
abbrev pub IfRefused : SealedInto → (Reserved → Type 0) → Type 0
IfRefused (Done room) P = ⊤
IfRefused (BadCipher room) P = P room
IfRefused (BadMac room) P = P room
IfRefused (BadLength room size) P = P room

-- what a list has behind the front that was there before
abbrev pub behind : (front whole : List ℕ) → List ℕ
behind front whole = drop (length front) whole
