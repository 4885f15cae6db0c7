-- A number stands for the same credentials each time.
use Rattle.std.proofs.Common.{◌≡◌, ◌<◌, ◌∙◌, ℕ, List, length, get_or, nat_eq, if◌then◌else◌, min, ap, sym, subst, arith}
use Rattle.std.proofs.lemmas.List.{same_lists}
use Rattle.std.proofs.lemmas.Option.{slice_get-get_or}
use Rattle.munge_types.specs.declared.algorithms.Cipher.{Cipher}
use Rattle.munge_types.specs.declared.algorithms.MacKind.{MacKind}
use Rattle.munge_types.specs.declared.identity.Identity.{Identity}
use Rattle.munge_types.specs.declared.settings.Settings.{Settings}
use Rattle.cred_inner.specs.InnerPart.{Content, inner_part}
use Rattle.cred_open.specs.Body.{IsBody}
use Rattle.cred_seal.specs.Asked.{Asked}
use Rattle.cred_seal.specs.SealedContent.{sealed_content}
use Rattle.cred_seal.specs.SealedText.{IsSealed}
use Rattle.load_maker.specs.Credentials.{AreCredentials, asked_for, asker_of, moment}
use Rattle.load_maker.specs.Load.{IsUsual}
use Rattle.load_maker.specs.Words.{drawn_at, key_of, place_of}

-- a request's content by the settings that it depends on
abbrev content_by : Asked → Identity → (moment : ℕ) → (salt : List ℕ) → (default_ttl max_ttl : ℕ) → (addr : List ℕ) → Content
content_by asked who moment salt default_ttl max_ttl addr =
    record {
      salt = salt;
      addr = addr;
      time = moment;
      ttl =
          (if nat_eq asked.ttl 0 then default_ttl
          else if nat_eq asked.ttl 4294967295 then max_ttl
          else min asked.ttl max_ttl);
      uid = who.uid;
      gid = who.gid;
      for_uid = asked.for_uid;
      for_gid = asked.for_gid;
      payload = asked.payload;
    }

-- by the usual settings it is one
usual_content : (one two : Settings) (asked : Asked) (who : Identity) (moment : ℕ) (salt : List ℕ) → IsUsual one → IsUsual two
    → sealed_content one asked who moment salt ≡ sealed_content two asked who moment salt
usual_content one two asked who moment salt usual usual' =
    let by : ℕ → ℕ → List ℕ → Content = content_by asked who moment salt in
    ap (λ default. by default one.max_ttl one.addr) (usual.default_ttl ∙ sym usual'.default_ttl)
    ∙ ap (λ max. by two.default_ttl max one.addr) (usual.max_ttl ∙ sym usual'.max_ttl)
    ∙ ap (λ addr. by two.default_ttl two.max_ttl addr) (usual.addr ∙ sym usual'.addr)

-- the body of a content
same_body : (key : List ℕ) (cipher : Cipher) (kind : MacKind) (vector : List ℕ) (one two : Content) (body : List ℕ) → one ≡ two
    → IsBody key cipher kind vector (inner_part one) body → IsBody key cipher kind vector (inner_part two) body
same_body key cipher kind vector one two body same = subst (λ content. IsBody key cipher kind vector (inner_part content) body) same

-- so what is sealed by one is sealed by the other
sealed_alike : (key : List ℕ) (one two : Settings) (asked : Asked) (who : Identity) (moment : ℕ) (salt vector text : List ℕ)
    → IsUsual one → IsUsual two
    → IsSealed key one asked who moment salt vector text → IsSealed key two asked who moment salt vector text
sealed_alike key one two asked who moment salt vector text usual usual' made =
    record {
      cipher = made.cipher;
      kind = made.kind;
      body = made.body;
      cipher_is = made.cipher_is;
      kind_is = made.kind_is;
      sealed = same_body key made.cipher made.kind _ _ _ made.body (usual_content one two asked who moment salt usual usual') made.sealed;
      armored = made.armored;
    }

-- what is asked for is sealed to one text
abbrev pub SealsOnce : Type 0
SealsOnce =
    (key : List ℕ) (settings : Settings) (asked : Asked) (who : Identity) (moment : ℕ) (salt vector first second : List ℕ)
    → IsSealed key settings asked who moment salt vector first → IsSealed key settings asked who moment salt vector second
    → first ≡ second

pub same_texts : (seed : List ℕ) (one two : Settings) (first second : List (List ℕ)) → SealsOnce → IsUsual one → IsUsual two
    → length first ≡ length second → AreCredentials seed one first → AreCredentials seed two second → first ≡ second
same_texts seed one two first second once usual usual' count made made' =
    same_lists first second count (λ i d within.
    let drawn = drawn_at seed (place_of i) in
    let within' : i < length second = omega arith in
    let text = get_or first i d in
    let text' = get_or second i d in
    once (key_of seed) two (asked_for i drawn.payload) (asker_of i) moment drawn.salt drawn.iv text text'
    (sealed_alike (key_of seed) one two (asked_for i drawn.payload) (asker_of i) moment drawn.salt drawn.iv text usual usual'
    (made i text (slice_get-get_or first i d within)).is_sealed)
    (made' i text' (slice_get-get_or second i d within')).is_sealed)
