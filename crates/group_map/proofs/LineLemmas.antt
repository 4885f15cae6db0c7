-- What fields tell.
use Rattle.std.proofs.Common.{◌≡◌, ℕ, ◌<◌, List, [], ◌∷◌, length, Option, Some, None, refl, arith}
use Rattle.group_map.specs.GroupLine.{group_from, listed_names}
use Rattle.group_map.specs.PasswdLine.{user_from}

pub user_from-unnamed : (name : List ℕ) (uid gid : Option ℕ) → length name ≡ 0 → user_from name uid gid ≡ None
user_from-unnamed [] uid gid none = refl
user_from-unnamed (byte ∷ bytes) uid gid none = absurd (omega arith)

pub user_from-no_uid : (name : List ℕ) (gid : Option ℕ) → user_from name None gid ≡ None
user_from-no_uid [] gid = refl
user_from-no_uid (byte ∷ bytes) gid = refl

pub user_from-no_gid : (name : List ℕ) (uid : Option ℕ) → user_from name uid None ≡ None
user_from-no_gid [] uid = refl
user_from-no_gid (byte ∷ bytes) None = refl
user_from-no_gid (byte ∷ bytes) (Some uid) = refl

pub user_from-some : (name : List ℕ) (uid gid : ℕ) → 0 < length name → user_from name (Some uid) (Some gid) ≡ Some (uid, name)
user_from-some [] uid gid named = absurd (omega arith)
user_from-some (byte ∷ bytes) uid gid named = refl

pub group_from-unnamed : (name : List ℕ) (gid : Option ℕ) (users : List ℕ) → length name ≡ 0 → group_from name gid users ≡ None
group_from-unnamed [] gid users none = refl
group_from-unnamed (byte ∷ bytes) gid users none = absurd (omega arith)

pub group_from-no_gid : (name users : List ℕ) → group_from name None users ≡ None
group_from-no_gid [] users = refl
group_from-no_gid (byte ∷ bytes) users = refl

pub group_from-some : (name : List ℕ) (gid : ℕ) (users : List ℕ) → 0 < length name → group_from name (Some gid) users ≡ Some (gid, listed_names users)
group_from-some [] gid users named = absurd (omega arith)
group_from-some (byte ∷ bytes) gid users named = refl
