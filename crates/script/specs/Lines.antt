use Rattle.std.specs.Prelude.{ℕ, List}
use Rattle.inline_bytes.specs.Held.{bytes_of}
use Rattle.script.specs.declared.line.Line.{Line}

-- what a line holds
abbrev pub line_text : Line → List ℕ
line_text l = bytes_of l.text
