use Rattle.option_file.proofs.Sound.{file-sound}
use Rattle.option_file.proofs.laws.accepted_file_is_sound.Goals as goal

pub returns : goal.returns
returns c = file-sound
