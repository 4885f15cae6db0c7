-- Why a daemon ends that was to serve.
use Rattle.std.proofs.Common.{◌≡◌, ℕ, suc, ◌<◌, ◌⊎◌, inl, inr, Bool, true, false, List, [], ◌∷◌, length, slice_index_or, Option, None, Some, option_map, IsSomeAnd, refl, sym, ap, ◌∙◌, subst, arith}
use Rattle.byte_io.specs.Counts.{Rose}
use Rattle.byte_io.specs.declared.files.FileFail.TheVariants.{Failed, NoMemory}
use Rattle.decode_rules.specs.declared.world.World.{World}
use Rattle.group_map.specs.GroupLine.{is_group_line}
use Rattle.group_map.specs.PasswdLine.{is_passwd_line}
use Rattle.option_file.specs.Configuration.{Configuration}
use Rattle.option_file.specs.declared.sockets.SocketLine.{SocketLine}
use Rattle.worker_pool.specs.Daemon.{DaemonSight}
use Rattle.worker_pool.specs.Single.{IsWornWithin}
use Rattle.worker_pool.specs.declared.post.Post.{Post}
use Rattle.munged_run.specs.Check.{GivesNoOptions}
use Rattle.munged_run.specs.Check as options
use Rattle.munged_files.specs.Ending.{Ending}
use Rattle.munged_files.specs.Ending as ending
use Rattle.munged_files.specs.KeyFile as key
use Rattle.munged_files.specs.MapFile.{RefusesNamed}
use Rattle.munged_files.specs.MapFile as map_file
use Rattle.munged_run.specs.Output.{Output, Failed as WriteFailed}
use Rattle.munged_files.specs.SeedFile as seed_file
use Rattle.munged_run.specs.Servable.{IsWornTicket}
use Rattle.munged_run.specs.Serve.{Outside, Pool, SaidSo, ServeCame, Served, ServedAt, Times, after_serving}
use Rattle.munged_run.specs.Serve as serve
use Rattle.munged_run.specs.ServeDoors.{HasFaultyDoor, Unopened, has_failed}
use Rattle.munged_run.specs.ServeDoors as doors
use Rattle.munged_run.specs.ServeFiles.{RefusesWorld}
use Rattle.munged_run.specs.ServeFiles as files_of
use Rattle.munged_files.specs.Unread.{IsUnread}
use Rattle.munged_run.specs.Wire.{WireSeen}

-- ---- one failed door of a list

faulty_here : {D : Type 0} (faults : D → ℕ) (post : Post D) (rest : List (Post D))
    → 0 < faults post.door → HasFaultyDoor faults (post ∷ rest)
faulty_here faults post rest faulty =
    record { front = []; post = post; rest = rest; posts_are = refl; faulty = faulty }

faulty_behind : {D : Type 0} (faults : D → ℕ) (first : Post D) (posts : List (Post D))
    → HasFaultyDoor faults posts → HasFaultyDoor faults (first ∷ posts)
faulty_behind faults first posts has =
    record {
      front = first ∷ has.front;
      post = has.post;
      rest = has.rest;
      posts_are = ap (λ l. first ∷ l) has.posts_are;
      faulty = has.faulty;
    }

-- a post at each place
abbrev EachFails : {D : Type 0} → (faults : D → ℕ) → List (Post D) → Type 0
EachFails {D} faults posts = (p : ℕ) (post : Post D) → p < length posts
    → (slice_index_or posts p post).failed ≡ true
    → 0 < faults (slice_index_or posts p post).door

pub one_fails : {D : Type 0} (faults : D → ℕ) (posts : List (Post D)) → EachFails faults posts
    → has_failed posts ≡ true → HasFaultyDoor faults posts
one_fails faults [] each any = absurd (cc)
one_fails {D} faults (post ∷ posts) each any =
    by (λ later. one_fails faults posts
    (λ p d within failed. each (suc p) d (omega (arith, within)) failed) later) post.failed refl
  where
    by : (has_failed posts ≡ true → HasFaultyDoor faults posts) → (b : Bool) → post.failed ≡ b
        → HasFaultyDoor faults (post ∷ posts)
    by next true is = faulty_here faults post posts (each 0 post (omega arith) is)
    by next false is =
        let later : has_failed posts ≡ true = rw is at any in
        faulty_behind faults post posts (next later)

-- ---- how a pool ended, by what it tells

door_first : (door_failed ticker_failed : Bool) (worn : Option ℕ) (printed : Bool)
    → after_serving door_failed ticker_failed worn printed ≡ ending.socket_failed
    → door_failed ≡ true
door_first true ticker_failed worn printed is = refl
door_first false true worn printed is = absurd (cc)
door_first false false (Some ticket) printed is = absurd (cc)
door_first false false None true is = absurd (cc)
door_first false false None false is = absurd (cc)

then_ticker : (door_failed ticker_failed : Bool) (worn : Option ℕ) (printed : Bool)
    → after_serving door_failed ticker_failed worn printed ≡ ending.ticker_failed
    → ticker_failed ≡ true
then_ticker true ticker_failed worn printed is = absurd (cc)
then_ticker false true worn printed is = refl
then_ticker false false (Some ticket) printed is = absurd (cc)
then_ticker false false None true is = absurd (cc)
then_ticker false false None false is = absurd (cc)

then_worn : (door_failed ticker_failed : Bool) (worn : Option ℕ) (printed : Bool) (ticket : ℕ)
    → after_serving door_failed ticker_failed worn printed ≡ ending.worn ticket
    → worn ≡ Some ticket
then_worn true ticker_failed worn printed ticket is = absurd (cc)
then_worn false true worn printed ticket is = absurd (cc)
then_worn false false (Some other) printed ticket is =
    let same : other ≡ ticket = cc in ap (λ t. Some t) same
then_worn false false None true ticket is = absurd (cc)
then_worn false false None false ticket is = absurd (cc)

-- ---- what was served

served_faulty : {D L C T B : Type 0} (sight : DaemonSight D L C T B) (world : World)
    (seeds : List (List ℕ)) (posts : List (Post D)) (before after : Times T) (pool : Pool D L C B)
    → Served sight world seeds posts before after pool → has_failed pool.posts ≡ true
    → HasFaultyDoor sight.doors.faults pool.posts
served_faulty sight world seeds posts before after pool it any =
    one_fails sight.doors.faults pool.posts
    (λ p post within failed.
    let ran = it.ran.posts in
    let inside : p < length posts = omega (arith, within, ran.posts_stay) in
    let rose = (ran.each p post [] inside).failed failed in
    omega (arith, rose))
    any

pub door_cause : {D L C T B : Type 0} (sight : DaemonSight D L C T B) (world : World)
    (seeds : List (List ℕ)) (posts : List (Post D)) (out : Output) (before after : Times T)
    (served : Option (Pool D L C B)) (how : Ending)
    → ServedAt sight world seeds posts out before after served how → how ≡ ending.socket_failed
    → IsSomeAnd served (λ pool. HasFaultyDoor sight.doors.faults pool.posts)
door_cause sight world seeds posts out before after served how (serve.unready cut same none is) failed_so =
    let both : ending.output_failed ≡ ending.socket_failed = sym is ∙ failed_so in absurd (cc)
door_cause sight world seeds posts out before after served how (serve.unserved printed same none is) failed_so =
    let both : ending.no_memory ≡ ending.socket_failed = sym is ∙ failed_so in absurd (cc)
door_cause {D} {L} {C} {T} {B} sight world seeds posts out before after served how (serve.served pool is it said) failed_so =
    let any = door_first (has_failed pool.posts) pool.told.ticker_failed pool.told.worn said.printed
    (sym said.how_is ∙ failed_so) in
    subst (λ (s : Option (Pool D L C B)). IsSomeAnd s (λ pool. HasFaultyDoor sight.doors.faults pool.posts))
    (sym is) (served_faulty sight world seeds posts before after pool it any)

pub ticker_cause : {D L C T B : Type 0} (sight : DaemonSight D L C T B) (world : World)
    (seeds : List (List ℕ)) (posts : List (Post D)) (out : Output) (before after : Times T)
    (served : Option (Pool D L C B)) (how : Ending)
    → ServedAt sight world seeds posts out before after served how → how ≡ ending.ticker_failed
    → Rose (sight.ticks.faults before.ticker) (sight.ticks.faults after.ticker)
ticker_cause sight world seeds posts out before after served how (serve.unready cut same none is) failed_so =
    let both : ending.output_failed ≡ ending.ticker_failed = sym is ∙ failed_so in absurd (cc)
ticker_cause sight world seeds posts out before after served how (serve.unserved printed same none is) failed_so =
    let both : ending.no_memory ≡ ending.ticker_failed = sym is ∙ failed_so in absurd (cc)
ticker_cause sight world seeds posts out before after served how (serve.served pool is it said) failed_so =
    it.ran.purged.failed (then_ticker (has_failed pool.posts) pool.told.ticker_failed pool.told.worn
    said.printed (sym said.how_is ∙ failed_so))

worn_so : (entries : ℕ) (worn : Option ℕ) (ticket : ℕ) → worn ≡ Some ticket
    → IsWornWithin entries worn → IsWornTicket worn entries
worn_so entries None ticket is within = absurd (cc)
worn_so entries (Some other) ticket is within = within

pub worn_cause : {D L C T B : Type 0} (sight : DaemonSight D L C T B) (world : World)
    (seeds : List (List ℕ)) (posts : List (Post D)) (out : Output) (before after : Times T)
    (served : Option (Pool D L C B)) (how : Ending) (ticket : ℕ)
    → ServedAt sight world seeds posts out before after served how → how ≡ ending.worn ticket
    → IsSomeAnd served (λ pool. IsWornTicket pool.told.worn pool.told.entries)
worn_cause sight world seeds posts out before after served how ticket (serve.unready cut same none is) so =
    let both : ending.output_failed ≡ ending.worn ticket = sym is ∙ so in absurd (cc)
worn_cause sight world seeds posts out before after served how ticket (serve.unserved printed same none is) so =
    let both : ending.no_memory ≡ ending.worn ticket = sym is ∙ so in absurd (cc)
worn_cause {D} {L} {C} {T} {B} sight world seeds posts out before after served how ticket (serve.served pool is it said) so =
    let drawn = then_worn (has_failed pool.posts) pool.told.ticker_failed pool.told.worn said.printed
    ticket (sym said.how_is ∙ so) in
    subst (λ (s : Option (Pool D L C B)). IsSomeAnd s (λ pool. IsWornTicket pool.told.worn pool.told.entries))
    (sym is) (worn_so pool.told.entries pool.told.worn ticket drawn it.ran.worn_is)

then_unprinted : (door_failed ticker_failed : Bool) (worn : Option ℕ) (printed : Bool)
    → after_serving door_failed ticker_failed worn printed ≡ ending.output_failed
    → printed ≡ false
then_unprinted true ticker_failed worn printed is = absurd (cc)
then_unprinted false true worn printed is = absurd (cc)
then_unprinted false false (Some ticket) printed is = absurd (cc)
then_unprinted false false None true is = absurd (cc)
then_unprinted false false None false is = refl

then_printed : (door_failed ticker_failed : Bool) (worn : Option ℕ) (printed : Bool)
    → after_serving door_failed ticker_failed worn printed ≡ ending.done → printed ≡ true
then_printed true ticker_failed worn printed is = absurd (cc)
then_printed false true worn printed is = absurd (cc)
then_printed false false (Some ticket) printed is = absurd (cc)
then_printed false false None true is = refl
then_printed false false None false is = absurd (cc)

said_failed : (printed : Bool) (out : Output) (text : List ℕ) → printed ≡ false
    → SaidSo printed out text → WriteFailed out
said_failed true out text is said = absurd (cc)
said_failed false out text is said = said.failed

said_sound : (printed : Bool) (out : Output) (text : List ℕ) → printed ≡ true
    → SaidSo printed out text → out.after.faults ≡ out.before.faults
said_sound true out text is said = said.none_failed
said_sound false out text is said = absurd (cc)

output_cause : {D L C T B : Type 0} (sight : DaemonSight D L C T B) (world : World)
    (seeds : List (List ℕ)) (posts : List (Post D)) (out : Output) (before after : Times T)
    (served : Option (Pool D L C B)) (how : Ending)
    → ServedAt sight world seeds posts out before after served how → how ≡ ending.output_failed
    → WriteFailed out
output_cause sight world seeds posts out before after served how (serve.unready cut same none is) failed_so =
    cut.failed
output_cause sight world seeds posts out before after served how (serve.unserved printed same none is) failed_so =
    let both : ending.no_memory ≡ ending.output_failed = sym is ∙ failed_so in absurd (cc)
output_cause sight world seeds posts out before after served how (serve.served pool is it said) failed_so =
    said_failed said.printed out _ (then_unprinted (has_failed pool.posts) pool.told.ticker_failed
    pool.told.worn said.printed (sym said.how_is ∙ failed_so)) said.output

done_sound : {D L C T B : Type 0} (sight : DaemonSight D L C T B) (world : World)
    (seeds : List (List ℕ)) (posts : List (Post D)) (out : Output) (before after : Times T)
    (served : Option (Pool D L C B)) (how : Ending)
    → ServedAt sight world seeds posts out before after served how → how ≡ ending.done
    → out.after.faults ≡ out.before.faults
done_sound sight world seeds posts out before after served how (serve.unready cut same none is) done_so =
    let both : ending.output_failed ≡ ending.done = sym is ∙ done_so in absurd (cc)
done_sound sight world seeds posts out before after served how (serve.unserved printed same none is) done_so =
    let both : ending.no_memory ≡ ending.done = sym is ∙ done_so in absurd (cc)
done_sound sight world seeds posts out before after served how (serve.served pool is it said) done_so =
    said_sound said.printed out _ (then_printed (has_failed pool.posts) pool.told.ticker_failed
    pool.told.worn said.printed (sym said.how_is ∙ done_so)) said.output

-- ---- ends of a daemon that served nothing

-- the end is one of a daemon that printed something, or was to
abbrev pub is_late : Ending → Bool
is_late ending.ticker_failed = true
is_late (ending.worn ticket) = true
is_late ending.done = true
is_late ending.no_command = false
is_late (ending.unread name) = false
is_late (ending.wrong_size name size) = false
is_late (ending.options why) = false
is_late (ending.bad_line name line) = false
is_late (ending.too_long name size) = false
is_late ending.input_failed = false
is_late ending.output_failed = true
is_late ending.clock_failed = false
is_late (ending.malformed place) = false
is_late ending.no_memory = false
is_late ending.budget = false
is_late ending.no_control = false
is_late ending.socket_failed = false
is_late ending.unanswered = false

unread_early : (name : List ℕ) (how : Ending) → IsUnread name how → is_late how ≡ false
unread_early name how (inl is) = ap is_late is
unread_early name how (inr is) = ap is_late is

options_early : (files : Option (List (List ℕ × List ℕ))) (name : List ℕ) (how : Ending)
    → GivesNoOptions files name how → is_late how ≡ false
options_early files name how (options.unread is) = unread_early name how is
options_early files name how (options.refused bytes reads why first is) = ap is_late is
options_early files name how (options.no_memory is) = ap is_late is

map_early : (is_right : List ℕ → Bool) (files : Option (List (List ℕ × List ℕ)))
    (named : Option (List ℕ)) (how : Ending) → RefusesNamed is_right files named how
    → is_late how ≡ false
map_early is_right files None how refused = absurd refused
map_early is_right files (Some name) how (map_file.no_bytes (map_file.unread is)) = unread_early name how is
map_early is_right files (Some name) how (map_file.no_bytes (map_file.too_long bytes reads long is)) = ap is_late is
map_early is_right files (Some name) how (map_file.bad_line bytes holds line first is) = ap is_late is
map_early is_right files (Some name) how (map_file.no_memory is) = ap is_late is

world_early : (files : Option (List (List ℕ × List ℕ))) (said : Configuration) (how : Ending)
    → RefusesWorld files said how → is_late how ≡ false
world_early files said how (files_of.bad_key (key.unread is)) = ap is_late is
world_early files said how (files_of.bad_key (key.refused bytes reads unfit is)) = ap is_late is
world_early files said how (files_of.bad_key (key.no_memory is)) = ap is_late is
world_early files said how (files_of.bad_seed bytes holds (seed_file.seeds_unread is)) =
    unread_early said.seed how is
world_early files said how (files_of.bad_seed bytes holds (seed_file.too_few few reads less is)) = ap is_late is
world_early files said how (files_of.bad_map bytes holds seeds read (map_file.bad_passwd refused)) =
    map_early is_passwd_line files said.passwd how refused
world_early files said how (files_of.bad_map bytes holds seeds read (map_file.bad_group right refused)) =
    map_early is_group_line files said.group how refused

doors_early : {D : Type 0} {faults : D → ℕ} (lines : List SocketLine) (before after : Option (List (List ℕ × D)))
    (how : Ending) → Unopened faults lines before after how → is_late how ≡ false
doors_early lines before after how (doors.no_room same is) = ap is_late is
doors_early lines before after how (doors.stuck front line rest cut posts between so Failed opens is) =
    ap is_late is
doors_early lines before after how (doors.stuck front line rest cut posts between so NoMemory opens is) =
    ap is_late is

-- a late end is none of these
not_early : (how late : Ending) → how ≡ late → is_late late ≡ true → is_late how ≡ false → ⊥
not_early how late is late_so early =
    let both : true ≡ false = sym late_so ∙ (ap is_late (sym is) ∙ early) in cc

-- ---- by what `serve` comes to

pub came_door : {D L C T B : Type 0} (sight : DaemonSight D L C T B)
    (files : Option (List (List ℕ × List ℕ))) (config : List ℕ) (silent : Type 0) (out : Output)
    (before after : Outside D T) (served : Option (Pool D L C B)) (how : Ending) (opened : Type 0)
    → ServeCame sight files config silent out before after served how
    → (how ≡ ending.socket_failed → served ≡ None → opened) → how ≡ ending.socket_failed
    → opened ⊎ IsSomeAnd served (λ pool. HasFaultyDoor sight.doors.faults pool.posts)
came_door sight files config silent out before after served how opened (serve.no_options quiet same gave none) unserved is =
    inl (unserved is none)
came_door sight files config silent out before after served how opened (serve.by_options said holds (serve.refused_file quiet same refuses none)) unserved is =
    inl (unserved is none)
came_door sight files config silent out before after served how opened (serve.by_options said holds (serve.by_files world seeds read (serve.unopened quiet same shut none))) unserved is =
    inl (unserved is none)
came_door sight files config silent out before after served how opened (serve.by_options said holds (serve.by_files world seeds read (serve.opened posts opens came))) unserved is =
    inr (door_cause sight world seeds posts out before.times after.times served how came is)

pub came_ticker : {D L C T B : Type 0} (sight : DaemonSight D L C T B)
    (files : Option (List (List ℕ × List ℕ))) (config : List ℕ) (silent : Type 0) (out : Output)
    (before after : Outside D T) (served : Option (Pool D L C B)) (how : Ending)
    → ServeCame sight files config silent out before after served how
    → how ≡ ending.ticker_failed
    → Rose (sight.ticks.faults before.times.ticker) (sight.ticks.faults after.times.ticker)
came_ticker sight files config silent out before after served how (serve.no_options quiet same gave none) is =
    absurd (not_early how ending.ticker_failed is refl (options_early files config how gave))
came_ticker sight files config silent out before after served how (serve.by_options said holds (serve.refused_file quiet same refuses none)) is =
    absurd (not_early how ending.ticker_failed is refl (world_early files said how refuses))
came_ticker sight files config silent out before after served how (serve.by_options said holds (serve.by_files world seeds read (serve.unopened quiet same shut none))) is =
    absurd (not_early how ending.ticker_failed is refl (doors_early said.sockets before.doors after.doors how shut))
came_ticker sight files config silent out before after served how (serve.by_options said holds (serve.by_files world seeds read (serve.opened posts opens came))) is =
    ticker_cause sight world seeds posts out before.times after.times served how came is

pub came_worn : {D L C T B : Type 0} (sight : DaemonSight D L C T B)
    (files : Option (List (List ℕ × List ℕ))) (config : List ℕ) (silent : Type 0) (out : Output)
    (before after : Outside D T) (served : Option (Pool D L C B)) (how : Ending) (ticket : ℕ)
    → ServeCame sight files config silent out before after served how
    → how ≡ ending.worn ticket
    → IsSomeAnd served (λ pool. IsWornTicket pool.told.worn pool.told.entries)
came_worn sight files config silent out before after served how ticket (serve.no_options quiet same gave none) is =
    absurd (not_early how (ending.worn ticket) is refl (options_early files config how gave))
came_worn sight files config silent out before after served how ticket (serve.by_options said holds (serve.refused_file quiet same refuses none)) is =
    absurd (not_early how (ending.worn ticket) is refl (world_early files said how refuses))
came_worn sight files config silent out before after served how ticket (serve.by_options said holds (serve.by_files world seeds read (serve.unopened quiet same shut none))) is =
    absurd (not_early how (ending.worn ticket) is refl (doors_early said.sockets before.doors after.doors how shut))
came_worn sight files config silent out before after served how ticket (serve.by_options said holds (serve.by_files world seeds read (serve.opened posts opens came))) is =
    worn_cause sight world seeds posts out before.times after.times served how ticket came is

pub came_output : {D L C T B : Type 0} (sight : DaemonSight D L C T B)
    (files : Option (List (List ℕ × List ℕ))) (config : List ℕ) (silent : Type 0) (out : Output)
    (before after : Outside D T) (served : Option (Pool D L C B)) (how : Ending)
    → ServeCame sight files config silent out before after served how
    → how ≡ ending.output_failed → WriteFailed out
came_output sight files config silent out before after served how (serve.no_options quiet same gave none) is =
    absurd (not_early how ending.output_failed is refl (options_early files config how gave))
came_output sight files config silent out before after served how (serve.by_options said holds (serve.refused_file quiet same refuses none)) is =
    absurd (not_early how ending.output_failed is refl (world_early files said how refuses))
came_output sight files config silent out before after served how (serve.by_options said holds (serve.by_files world seeds read (serve.unopened quiet same shut none))) is =
    absurd (not_early how ending.output_failed is refl (doors_early said.sockets before.doors after.doors how shut))
came_output sight files config silent out before after served how (serve.by_options said holds (serve.by_files world seeds read (serve.opened posts opens came))) is =
    output_cause sight world seeds posts out before.times after.times served how came is

pub came_done : {D L C T B : Type 0} (sight : DaemonSight D L C T B)
    (files : Option (List (List ℕ × List ℕ))) (config : List ℕ) (silent : Type 0) (out : Output)
    (before after : Outside D T) (served : Option (Pool D L C B)) (how : Ending)
    → ServeCame sight files config silent out before after served how
    → how ≡ ending.done → out.after.faults ≡ out.before.faults
came_done sight files config silent out before after served how (serve.no_options quiet same gave none) is =
    absurd (not_early how ending.done is refl (options_early files config how gave))
came_done sight files config silent out before after served how (serve.by_options said holds (serve.refused_file quiet same refuses none)) is =
    absurd (not_early how ending.done is refl (world_early files said how refuses))
came_done sight files config silent out before after served how (serve.by_options said holds (serve.by_files world seeds read (serve.unopened quiet same shut none))) is =
    absurd (not_early how ending.done is refl (doors_early said.sockets before.doors after.doors how shut))
came_done sight files config silent out before after served how (serve.by_options said holds (serve.by_files world seeds read (serve.opened posts opens came))) is =
    done_sound sight world seeds posts out before.times after.times served how came is

-- ---- the same of a value that is looked at in another form

pub some_and : {X Y : Type 0} (form : X → Y) (P : Y → Type 0) (value : Option X)
    → IsSomeAnd (option_map form value) P → IsSomeAnd value (λ x. P (form x))
some_and form P None it = it
some_and form P (Some x) it = it

pub or_some : {A X Y : Type 0} (form : X → Y) (P : Y → Type 0) (value : Option X)
    → A ⊎ IsSomeAnd (option_map form value) P → A ⊎ IsSomeAnd value (λ x. P (form x))
or_some form P value (inl it) = inl it
or_some form P value (inr it) = inr (some_and form P value it)

pub none_of : {X Y : Type 0} (form : X → Y) (value : Option X) → option_map form value ≡ None
    → value ≡ None
none_of form None is = refl
none_of form (Some x) is = absurd (cc)

-- ---- a wire of which each thing that is seen is as before

pub same_wire : (before after : WireSeen) → after.dialled ≡ before.dialled
    → after.replies ≡ before.replies → after.left ≡ before.left → after.taken ≡ before.taken
    → after.ends ≡ before.ends → after.dial_faults ≡ before.dial_faults
    → after.read_faults ≡ before.read_faults → after.write_faults ≡ before.write_faults
    → after ≡ before
same_wire before after dialled replies left taken ends dials reads writes = λ i. record {
  dialled = dialled i;
  replies = replies i;
  left = left i;
  taken = taken i;
  ends = ends i;
  dial_faults = dials i;
  read_faults = reads i;
  write_faults = writes i;
}
