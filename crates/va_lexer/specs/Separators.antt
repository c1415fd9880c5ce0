-- What separates tokens and gives none (White space, Comments). Each is a test on a whole list of bytes.
use Rattle.std.specs.Prelude.{ℕ, Bool, true, false, not, ◌==◌, ◌&&◌, ◌||◌, List, [], ◌∷◌, if◌then◌else◌}
use Rattle.std.specs.List.{list_all}
use Rattle.va_base.specs.Spelling.{byte_then, are_some, is_empty, is_in_line, is_newline}

-- a tab, a carriage return or a space
abbrev pub is_blank : ℕ → Bool
is_blank byte = byte == 9 || byte == 13 || byte == 32

abbrev pub is_white_space : List ℕ → Bool
is_white_space = are_some is_blank

-- `//`, and what stands before the line's end
abbrev pub is_line_comment : List ℕ → Bool
is_line_comment = byte_then 47 (byte_then 47 (list_all is_in_line))

-- `*/` stands at the front
abbrev pub closes_comment : List ℕ → Bool
closes_comment [] = false
closes_comment (c ∷ []) = false
closes_comment (c ∷ d ∷ rest) = c == 42 && d == 47

-- what follows `/*`: bytes up to the first `*/`, which is at the end
abbrev pub is_comment_rest : List ℕ → Bool
is_comment_rest [] = false
is_comment_rest (c ∷ rest) = if closes_comment (c ∷ rest) then byte_then 47 is_empty rest else is_comment_rest rest

abbrev pub is_block_comment : List ℕ → Bool
is_block_comment = byte_then 47 (byte_then 42 is_comment_rest)

-- a line end, before which a carriage return may stand
abbrev pub is_line_end : List ℕ → Bool
is_line_end bytes = is_newline bytes || byte_then 13 is_newline bytes

-- `\` directly before a line end: the line goes on
abbrev pub is_continued_line : List ℕ → Bool
is_continued_line = byte_then 92 is_line_end

abbrev pub is_separator : List ℕ → Bool
is_separator bytes = is_white_space bytes || is_line_comment bytes || is_block_comment bytes || is_continued_line bytes
