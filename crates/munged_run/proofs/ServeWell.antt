-- A daemon that can serve, where nothing fails.
use Rattle.std.proofs.Common.{◌≡◌, ◌∙◌, ℕ, ◌≤◌, ◌⊎◌, inl, inr, Bool, true, false, List, length, Option, None, Some, IsSomeAnd, sym, ap, subst, arith}
use Rattle.std.proofs.lemmas.List.{length-take, take_all}
use Rattle.byte_io.specs.Counts.{Rose}
use Rattle.byte_io.specs.declared.files.FileFail.TheVariants.{Failed, NoMemory}
use Rattle.decode_rules.specs.declared.world.World.{World}
use Rattle.group_map.specs.FirstBadLine.{first_bad}
use Rattle.group_map.specs.GroupLine.{is_group_line}
use Rattle.group_map.specs.PasswdLine.{is_passwd_line}
use Rattle.option_file.specs.Configuration.{Configuration, configuration_of}
use Rattle.option_file.specs.Refusals.{first_refusal}
use Rattle.option_file.specs.declared.refused.OptionRefused.{OptionRefused}
use Rattle.option_file.specs.declared.sockets.SocketLine.{SocketLine}
use Rattle.worker_pool.specs.Daemon.{DaemonSight}
use Rattle.worker_pool.specs.declared.post.Post.{Post}
use Rattle.munged_run.specs.Check.{GivesNoOptions}
use Rattle.munged_run.specs.Check as gives
use Rattle.munged_files.specs.Ending.{Ending, status_of}
use Rattle.munged_files.specs.Ending as ending
use Rattle.munged_files.specs.KeyFile.{GivesNoKey, IsKey, key_room}
use Rattle.munged_files.specs.KeyFile as key
use Rattle.munged_files.specs.MapFile.{GivesNoMap, RefusesMap, RefusesNamed, map_limit, map_room}
use Rattle.munged_files.specs.MapFile as map_file
use Rattle.munged_run.specs.Output.{Output}
use Rattle.munged_run.specs.Program.{Given}
use Rattle.munged_files.specs.SeedFile.{GivesNoSeeds, seeds_size}
use Rattle.munged_files.specs.SeedFile as seed_file
use Rattle.munged_files.specs.Status.{success, unread_file, want_of_memory, worn_gate}
use Rattle.munged_run.specs.Servable.{CanServe, IsRightMap, Tells, TellsFiles, TellsMap}
use Rattle.munged_run.specs.Serve.{Outside, Pool, ServeCame, ServedAt, ServedBy, ServedOver, Times, after_serving}
use Rattle.munged_run.specs.Serve as serve
use Rattle.munged_run.specs.ServeDoors.{HasFaultyDoor, Unopened, ending_after, has_failed}
use Rattle.munged_run.specs.ServeDoors as doors
use Rattle.munged_run.specs.ServeFiles.{RefusesWorld}
use Rattle.munged_run.specs.ServeFiles as files_of
use Rattle.munged_run.specs.ServeWords.{serve_of}
use Rattle.munged_run.proofs.Completeness.{read_front}
use Rattle.munged_run.proofs.ServeCauses.{came_door, came_output, came_ticker}
use Rattle.munged_run.proofs.StopWell.{whole_text}

-- it was done, no memory was left for it, or the gate was worn
abbrev pub Well : Ending → Type 0
Well how = (how ≡ ending.done)
    ⊎ ((how ≡ ending.no_memory) ⊎ ((ticket : ℕ) × (how ≡ ending.worn ticket)))

-- none of these ends
pub record Sound (how : Ending) : Type 0 where
  pub file : (name : List ℕ) → how ≡ ending.unread name → ⊥
  pub socket : how ≡ ending.socket_failed → ⊥
  pub output : how ≡ ending.output_failed → ⊥
  pub ticker : how ≡ ending.ticker_failed → ⊥

wants : {how : Ending} → how ≡ ending.no_memory → Well how
wants is = inr (inl is)

module _ (files : Option (List (List ℕ × List ℕ))) (told : List (List ℕ × List ℕ))
    (files_told : files ≡ Some told) (how : Ending) (sound : Sound how) where
  key_well : (name : List ℕ) → Tells told name IsKey → GivesNoKey files name how → Well how
  key_well name it (key.unread is) = absurd (sound.file name is)
  key_well name it (key.refused bytes reads unfit is) =
      let within : length it.bytes ≤ key_room = omega (arith, it.holds.not_long) in
      let same : bytes ≡ it.bytes =
      read_front files told name key_room bytes it.bytes files_told it.bytes_told reads
      ∙ take_all key_room it.bytes within in
      absurd (unfit (subst IsKey (sym same) it.holds))
  key_well name it (key.no_memory is) = wants is

  seeds_well : (name : List ℕ) (workers : ℕ)
      → Tells told name (λ bytes. seeds_size workers ≤ length bytes)
      → GivesNoSeeds files name workers how → Well how
  seeds_well name workers it (seed_file.seeds_unread (inl is)) = absurd (sound.file name is)
  seeds_well name workers it (seed_file.seeds_unread (inr is)) = wants is
  seeds_well name workers it (seed_file.too_few bytes reads few is) =
      let same = read_front files told name (seeds_size workers) bytes it.bytes files_told
      it.bytes_told reads in
      absurd (omega (arith, few, it.holds, ap length same, length-take (seeds_size workers) it.bytes))

  map_well : (is_right : List ℕ → Bool) (name : List ℕ) → Tells told name (IsRightMap is_right)
      → RefusesMap is_right files name how → Well how
  map_well is_right name it (map_file.no_bytes (map_file.unread (inl is))) = absurd (sound.file name is)
  map_well is_right name it (map_file.no_bytes (map_file.unread (inr is))) = wants is
  map_well is_right name it (map_file.no_bytes (map_file.too_long bytes reads long is)) =
      let same = read_front files told name map_room bytes it.bytes files_told it.bytes_told reads in
      absurd (omega (arith, long, it.holds.within, ap length same, length-take map_room it.bytes))
  map_well is_right name it (map_file.bad_line bytes holds line first is) =
      let within : length it.bytes ≤ map_room = omega (arith, it.holds.within) in
      let same : bytes ≡ it.bytes =
      read_front files told name map_room bytes it.bytes files_told it.bytes_told holds.read
      ∙ take_all map_room it.bytes within in
      let both : ◌≡◌ {A = Option ℕ} (Some line) None =
      sym first ∙ (ap (first_bad is_right) same ∙ it.holds.right) in
      absurd (cc)
  map_well is_right name it (map_file.no_memory is) = wants is

  named_well : (is_right : List ℕ → Bool) (named : Option (List ℕ)) → TellsMap is_right told named
      → RefusesNamed is_right files named how → Well how
  named_well is_right None it refused = absurd refused
  named_well is_right (Some name) it refused = map_well is_right name it refused

  maps_well : (said : Configuration) → TellsFiles told said
      → GivesNoMap files said.passwd said.group how → Well how
  maps_well said it (map_file.bad_passwd refused) = named_well is_passwd_line said.passwd it.passwd refused
  maps_well said it (map_file.bad_group right refused) = named_well is_group_line said.group it.group refused

  files_well : (said : Configuration) → TellsFiles told said → RefusesWorld files said how → Well how
  files_well said it (files_of.bad_key none) = key_well said.key it.key none
  files_well said it (files_of.bad_seed bytes holds none) = seeds_well said.seed said.workers it.seeds none
  files_well said it (files_of.bad_map bytes holds seeds read none) = maps_well said it none

-- ---- what comes of the doors

unopened_well : {D : Type 0} {faults : D → ℕ} (lines : List SocketLine) (before after : Option (List (List ℕ × D)))
    (how : Ending) → Sound how → Unopened faults lines before after how → Well how
unopened_well lines before after how sound (doors.no_room same is) = wants is
unopened_well lines before after how sound (doors.stuck front line rest cut posts between so Failed opens is) =
    absurd (sound.socket is)
unopened_well lines before after how sound (doors.stuck front line rest cut posts between so NoMemory opens is) =
    wants is

after_well : (door_failed ticker_failed : Bool) (worn : Option ℕ) (printed : Bool) (how : Ending)
    → Sound how → how ≡ after_serving door_failed ticker_failed worn printed → Well how
after_well true ticker_failed worn printed how sound is = absurd (sound.socket is)
after_well false true worn printed how sound is = absurd (sound.ticker is)
after_well false false (Some ticket) printed how sound is = inr (inr (ticket, is))
after_well false false None true how sound is = inl is
after_well false false None false how sound is = absurd (sound.output is)

at_well : {D L C T B : Type 0} (sight : DaemonSight D L C T B) (world : World)
    (seeds : List (List ℕ)) (posts : List (Post D)) (out : Output) (before after : Times T)
    (served : Option (Pool D L C B)) (how : Ending) → Sound how
    → ServedAt sight world seeds posts out before after served how → Well how
at_well sight world seeds posts out before after served how sound (serve.unready cut same none is) =
    absurd (sound.output is)
at_well sight world seeds posts out before after served how sound (serve.unserved printed same none is) =
    wants is
at_well sight world seeds posts out before after served how sound (serve.served pool is it said) =
    after_well (has_failed pool.posts) pool.told.ticker_failed pool.told.worn said.printed how sound
    said.how_is

over_well : {D L C T B : Type 0} (sight : DaemonSight D L C T B) (said : Configuration)
    (world : World) (seeds : List (List ℕ)) (silent : Type 0) (out : Output)
    (before after : Outside D T) (served : Option (Pool D L C B)) (how : Ending) → Sound how
    → ServedOver sight said world seeds silent out before after served how → Well how
over_well sight said world seeds silent out before after served how sound (serve.unopened quiet same shut none) =
    unopened_well said.sockets before.doors after.doors how sound shut
over_well sight said world seeds silent out before after served how sound (serve.opened posts opens came) =
    at_well sight world seeds posts out before.times after.times served how sound came

-- a daemon that can serve ends well where nothing fails
pub serve_well : {D L C T B : Type 0} (sight : DaemonSight D L C T B) (given : Given)
    (silent : Type 0) (out : Output) (before after : Outside D T) (served : Option (Pool D L C B))
    (how : Ending) → Sound how → (can : CanServe given)
    → ServeCame sight given.files can.config silent out before after served how → Well how
serve_well sight given silent out before after served how sound can (serve.no_options quiet same (gives.unread (inl is)) none) =
    absurd (sound.file can.config is)
serve_well sight given silent out before after served how sound can (serve.no_options quiet same (gives.unread (inr is)) none) =
    wants is
serve_well sight given silent out before after served how sound can (serve.no_options quiet same (gives.refused bytes reads why first is) none) =
    let text = whole_text given.files can.files can.config bytes can.text can.files_told
    can.text_told can.accepted reads in
    let both : ◌≡◌ {A = Option OptionRefused} (Some why) None =
    sym first ∙ (ap first_refusal text ∙ can.accepted) in
    absurd (cc)
serve_well sight given silent out before after served how sound can (serve.no_options quiet same (gives.no_memory is) none) =
    wants is
serve_well sight given silent out before after served how sound can (serve.by_options said holds (serve.refused_file quiet same refuses none)) =
    let text = whole_text given.files can.files can.config holds.bytes can.text can.files_told
    can.text_told can.accepted holds.read in
    let said_is : said ≡ configuration_of can.text = holds.said_is ∙ ap configuration_of text in
    files_well given.files can.files can.files_told how sound said
    (subst (λ c. TellsFiles can.files c) (sym said_is) can.right) refuses
serve_well sight given silent out before after served how sound can (serve.by_options said holds (serve.by_files world seeds read came)) =
    over_well sight said world seeds silent out before after served how sound came

-- ---- the status of such a daemon

well_status : (how : Ending) (status : ℕ) → status ≡ status_of how → Well how
    → (status ≡ success) ⊎ ((status ≡ want_of_memory) ⊎ (status ≡ worn_gate))
well_status how status number (inl is) = inl (number ∙ ap status_of is)
well_status how status number (inr (inl is)) = inr (inl (number ∙ ap status_of is))
well_status how status number (inr (inr (ticket, is))) = inr (inr (number ∙ ap status_of is))

same_config : (words : List (List ℕ)) (first second : List ℕ) → serve_of words ≡ Some first
    → serve_of words ≡ Some second → first ≡ second
same_config words first second one other =
    let both : ◌≡◌ {A = Option (List ℕ)} (Some first) (Some second) = sym one ∙ other in cc both

-- the status of a daemon that can serve, where nothing fails
pub serve_complete : {D L C T B : Type 0} (sight : DaemonSight D L C T B) (given : Given)
    (config : List ℕ) (silent : Type 0) (out : Output) (before after : Outside D T)
    (served : Option (Pool D L C B)) (how : Ending) (status : ℕ) (file hall : Type 0)
    → serve_of given.words ≡ Some config
    → ServeCame sight given.files config silent out before after served how
    → status ≡ status_of how → (status ≡ unread_file → file)
    → (how ≡ ending.socket_failed → served ≡ None → hall)
    → CanServe given → ¬ file → ¬ hall → ¬ Rose out.before.faults out.after.faults
    → ¬ Rose (sight.ticks.faults before.times.ticker) (sight.ticks.faults after.times.ticker)
    → ¬ IsSomeAnd served (λ pool. HasFaultyDoor sight.doors.faults pool.posts)
    → (status ≡ success) ⊎ ((status ≡ want_of_memory) ⊎ (status ≡ worn_gate))
serve_complete sight given config silent out before after served how status file hall asked came number unread unopened can no_file no_hall no_write no_tick no_door =
    well_status how status number
    (serve_well sight given silent out before after served how
    (record {
      file = λ name is. no_file (unread (number ∙ ap status_of is));
      socket = λ is. no_socket (came_door sight given.files config silent out before after served how
          hall came unopened is);
      output = λ is. no_write (came_output sight given.files config silent out before after served how
          came is);
      ticker = λ is. no_tick (came_ticker sight given.files config silent out before after served how
          came is);
    })
    can
    (subst (λ c. ServeCame sight given.files c silent out before after served how)
    (same_config given.words config can.config asked can.asked_for) came))
  where
    no_socket : hall ⊎ IsSomeAnd served (λ pool. HasFaultyDoor sight.doors.faults pool.posts) → ⊥
    no_socket (inl it) = no_hall it
    no_socket (inr it) = no_door it
