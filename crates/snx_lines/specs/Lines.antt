-- The lines of a text, as the SINEX 2.02 format description sees them: the first column says what a line is, and columns after 80 are not read.
use Rattle.std.specs.Prelude.{ℕ, suc, zero, ◌+◌, ◌-◌, ◌==◌, if◌then◌else◌, List, [], ◌∷◌, map, take, drop, Option, Some, None, slice_range}
use Rattle.std.specs.List.{before_first, position_or_len}
use Rattle.blanks.specs.Blanks.{is_blank, trimmed, front_trimmed}
use Rattle.bstr.specs.Text.{lines_of, without_terminator}
use Rattle.snx_lines.specs.declared.columns.Kind.{Kind}
use Rattle.snx_lines.specs.declared.columns.Kind.TheVariants as kinds

-- what a first byte says of a line: `%`, `*`, `+`, `-` or a blank
abbrev pub kind_by : ℕ → Option Kind
kind_by b =
    if b == 37 then Some kinds.Header
    else (if b == 42 then Some kinds.Comment
    else (if b == 43 then Some kinds.Start
    else (if b == 45 then Some kinds.End
    else (if is_blank b then Some kinds.Data else None))))

-- what the first column says of a line; nothing where its byte is none of the format's
abbrev pub kind_of : List ℕ → Option Kind
kind_of [] = Some kinds.Data
kind_of (b ∷ rest) = kind_by b

-- a line with its number, without where it lies in memory
pub record PlainLine : Type 0 where
  pub number : ℕ
  pub kind : Option Kind
  pub text : List ℕ

abbrev pub line_at : ℕ → List ℕ → PlainLine
line_at number text = record { number = number; kind = kind_of text; text = text }

-- each text with its number, from n on
abbrev pub numbered : ℕ → List (List ℕ) → List PlainLine
numbered n [] = []
numbered n (text ∷ rest) = line_at n text ∷ numbered (n + 1) rest

-- the columns of a line that are read
abbrev pub cut : List ℕ → List ℕ
cut text = take 80 text

-- the lines of a text, counted from 1: each ends by LF or CR LF, and is cut at column 80
abbrev pub lines_in : List ℕ → List PlainLine
lines_in text = numbered 1 (map cut (map without_terminator (lines_of text)))

-- columns from to `to` of a line, counted from 1, without the blanks at both ends; columns that the line lacks are blank
abbrev pub columns : List ℕ → ℕ → ℕ → List ℕ
columns text from to = trimmed (slice_range text (from - 1) to)

-- the name on a title or an end line: what follows its first column, up to the first blank
abbrev pub name_on : List ℕ → List ℕ
name_on text = before_first is_blank (drop 1 text)

-- what stands from the first blank of a text on
abbrev pub from_blank : List ℕ → List ℕ
from_blank text = drop (position_or_len is_blank text) text

-- word k of a text, counted from 0: the bytes up to the next blank, after k words and the blanks round them. It is empty where the text has no such word
abbrev pub word_at : ℕ → List ℕ → List ℕ
word_at zero text = before_first is_blank (front_trimmed text)
word_at (suc k) text = word_at k (from_blank (front_trimmed text))

-- word k after the name on a title
abbrev pub title_word : List ℕ → ℕ → List ℕ
title_word text k = word_at k (from_blank (drop 1 text))
