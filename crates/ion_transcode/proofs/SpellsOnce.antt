-- The bytes of a stream spell one path and one stream at most, in the encoding of each form.
use Rattle.ion_meter.specs.declared.profile.Profile.{Profile}
use Rattle.ion_binary.specs.Laws.{OnePath, OneStream}
use Rattle.ion_text_in.specs.Laws as text
use Rattle.ion_text_in.proofs.Sound as text_sound
use Rattle.ion_transcode.specs.declared.to.Form.TheVariants as form
use Rattle.ion_transcode.specs.Forms.{binary_encoding, text_encoding}
use Rattle.ion_transcode.specs.Laws.{OneSpelling, SpellsOnce}
use Rattle.ion_transcode.proofs.BinarySound.{at-path}

pub binary-once : OnePath → OneStream → (profile : Profile) → SpellsOnce (binary_encoding profile)
binary-once one_path one_stream profile = record {
  path = λ bytes a b s t at is. one_path bytes s.cursor.place t.cursor.place a b (at-path bytes a s at) (at-path bytes b t is);
  stream = λ bytes a b is other. one_stream bytes a b is other;
}

pub text-once : text.OnePath → text.OneStream → (profile : Profile) → SpellsOnce (text_encoding profile)
text-once one_path one_stream profile = record {
  path = λ bytes a b s t at is.
      one_path bytes at.after.place is.after.place a b (text_sound.at-path bytes a s at) (text_sound.at-path bytes b t is);
  stream = λ bytes a b is other. one_stream bytes a b is other;
}

pub one_spelling : ((profile : Profile) → SpellsOnce (binary_encoding profile)) → ((profile : Profile) → SpellsOnce (text_encoding profile)) → OneSpelling
one_spelling binary_once text_once profile form.Binary = binary_once profile
one_spelling binary_once text_once profile form.Text = text_once profile
