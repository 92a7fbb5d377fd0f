-- What a shell has open at a place, byte by byte: quotes and substitutions, which nest. (POSIX shell, 2.2, 2.3 and 2.6)
use Rattle.std.specs.Prelude.{ℕ, Bool, true, false, ◌&&◌, not, [], ◌==◌, if◌then◌else◌}
use Rattle.shellword.specs.Text.{backslash, dollar}
use Rattle.lint_marks.specs.Nested.{innermost, change_at, changed, place_after, after_quoted, after_comment, escapes, is_comment, is_closed}
use Rattle.lint_marks.specs.declared.nesting.NestPlace.{NestPlace}
use Rattle.lint_marks.specs.declared.nesting.NestPlace.TheVariants as at
use Rattle.lint_marks.specs.declared.nest.ShellNest.{ShellNest}

-- Nothing is open. (own)
abbrev pub no_nest : ShellNest
no_nest = record { nested = []; place = at.Start; is_escaped = false; is_dollar = false }

-- After a byte that no backslash quotes, outside comments. (POSIX shell, 2.2, 2.3 and 2.6)
abbrev pub after_plain : ShellNest → ℕ → ShellNest
after_plain s b = record {
  nested = changed (change_at (innermost s.nested) s.is_dollar b) s.nested;
  place = place_after (change_at (innermost s.nested) s.is_dollar b) (innermost s.nested) s.place b;
  is_escaped = false;
  is_dollar = b == dollar;
}

-- With another place, and without a backslash or a `$` before it. (own)
abbrev pub moved : ShellNest → NestPlace → ShellNest
moved s place = record { nested = s.nested; place = place; is_escaped = false; is_dollar = false }

-- After a backslash that quotes the next byte. (POSIX shell, 2.2.1)
abbrev pub after_backslash : ShellNest → ShellNest
after_backslash s = record { nested = s.nested; place = s.place; is_escaped = true; is_dollar = false }

-- After a byte that the shell sees. (POSIX shell, 2.2, 2.3 and 2.6)
abbrev pub nest_after : ShellNest → ℕ → ShellNest
nest_after s b =
    if s.is_escaped then moved s (after_quoted s.place b)
    else (if is_comment s.place then moved s (after_comment b)
    else (if b == backslash && escapes (innermost s.nested) then after_backslash s
    else after_plain s b))

-- The place is in no quotes, no substitution and no comment, and no backslash is before it. (POSIX shell, 2.2, 2.3 and 2.6)
abbrev pub is_bare : ShellNest → Bool
is_bare s = is_closed s.nested && not s.is_escaped && not (is_comment s.place)
