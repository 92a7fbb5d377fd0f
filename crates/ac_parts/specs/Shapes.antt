-- What parts may be within a part of each kind.
use Rattle.std.specs.Prelude.{ℕ, ◌==◌, ◌&&◌, Bool, true, false, List, [], ◌∷◌, ltb, Option, Some, None, if◌then◌else◌}
use Rattle.ac_parts.specs.declared.kind.Kind.{Kind}
use Rattle.ac_parts.specs.declared.kind.Kind.TheVariants as kinds
use Rattle.ac_parts.specs.declared.shapes.Step.{Step}
use Rattle.ac_parts.specs.declared.shapes.End.{End}
use Rattle.ac_parts.specs.declared.shapes.TheConstants.{STEPS, ENDS}

-- The number of a kind.
abbrev pub code_of : Kind → ℕ
code_of kinds.Source = 0
code_of kinds.List = 1
code_of kinds.Condition = 2
code_of kinds.Statement = 3
code_of kinds.If = 4
code_of kinds.Command = 5
code_of kinds.Assignment = 6
code_of kinds.Word = 7
code_of kinds.Default = 8
code_of kinds.Call = 9
code_of kinds.Argument = 10
code_of kinds.Words = 11
code_of kinds.Other = 12
code_of kinds.Newline = 13
code_of kinds.Semicolon = 14
code_of kinds.Background = 15
code_of kinds.And = 16
code_of kinds.Or = 17
code_of kinds.Pipe = 18
code_of kinds.IfWord = 19
code_of kinds.Then = 20
code_of kinds.Elif = 21
code_of kinds.Else = 22
code_of kinds.Fi = 23
code_of kinds.Equals = 24
code_of kinds.DefaultStart = 25
code_of kinds.DefaultSign = 26
code_of kinds.DefaultEnd = 27
code_of kinds.Parenthesis = 28
code_of kinds.Comma = 29
code_of kinds.CallEnd = 30
code_of kinds.Left = 31
code_of kinds.Right = 32
code_of kinds.Blank = 33
code_of kinds.Gap = 34
code_of kinds.Redirect = 35
code_of kinds.Comment = 36
code_of kinds.Dropped = 37
code_of kinds.Variable = 38
code_of kinds.Plain = 39
code_of kinds.Single = 40
code_of kinds.Double = 41
code_of kinds.Dollar = 42
code_of kinds.Escape = 43
code_of kinds.Substitution = 44
code_of kinds.Constant = 45
code_of kinds.Name = 46
code_of kinds.Text = 47
code_of kinds.Entry = 48
code_of kinds.Raw = 49

-- The kind has no parts within it.
abbrev pub is_leaf : Kind → Bool
is_leaf kind = ltb 12 (code_of kind)

-- The kinds are the same.
abbrev pub is_kind : Kind → Kind → Bool
is_kind one other = code_of one == code_of other

-- ---- shapes

-- The step is one from here with a part of this kind.
abbrev pub is_step : Step → Kind → ℕ → Kind → Bool
is_step step of from child = is_kind step.0 of && step.1 == from && is_kind step.2 child

-- Where the first of these steps from here with a part of this kind leads.
abbrev pub step_in : List Step → Kind → ℕ → Kind → Option ℕ
step_in [] of from child = None
step_in (step ∷ steps) of from child = if is_step step of from child then Some step.3 else step_in steps of from child

-- After which parts the next one is, if a part of this kind may follow.
unfoldable pub next_state : Kind → ℕ → Kind → Option ℕ
next_state of from child = step_in STEPS of from child

-- The end is one of this kind here.
abbrev pub is_end : End → Kind → ℕ → Bool
is_end end of at = is_kind end.0 of && end.1 == at

-- One of these ends is here.
abbrev pub is_end_in : List End → Kind → ℕ → Bool
is_end_in [] of at = false
is_end_in (end ∷ ends) of at = if is_end end of at then true else is_end_in ends of at

-- A part of this kind may end here.
unfoldable pub may_end : Kind → ℕ → Bool
may_end of at = is_end_in ENDS of at
