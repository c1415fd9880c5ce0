use Rattle.va_sem.proofs.SoundNames.{sound_names_have_meanings}
use Rattle.va_sem.proofs.laws.sound_names_have_meanings.Goals as goal

pub returns : goal.returns
returns c = sound_names_have_meanings
