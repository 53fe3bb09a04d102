-- The decoder's answer counts.
use Rattle.std.specs.Prelude.{ℕ, List, ℤ}
use Rattle.settings.specs.declared.Settings.{Settings}
use Rattle.settings.specs.Slices.{Slices}
use Rattle.decoder.specs.Decoder.{Outcome, result_of, Decoded}
use Rattle.decoder.specs.ResultLaws.{DecoderAnswer, decoder-answer}

module _ (s : Settings) (mask : List ℕ) (llr : List ℤ) (before : Slices) where
  module _ {after : Slices} {r : Outcome} (d : Decoded s mask llr before after r) where
    pub answered : DecoderAnswer (result_of r)
    answered = rw d.answer (decoder-answer s mask llr before)
