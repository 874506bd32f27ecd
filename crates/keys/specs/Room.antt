use Rattle.std.specs.Prelude.{ℕ}
use Rattle.inline_bytes.specs.declared.inline_bytes.InlineBytes.{InlineBytes}

-- the most bytes of a coded key
abbrev pub longest_key : ℕ
longest_key = 16

-- the most bytes of a text, accepted or not
abbrev pub text_room : ℕ
text_room = 64

-- a coded key
abbrev pub Code : Type 0
Code = InlineBytes longest_key
