-- The line that tells a fault.
use Rattle.std.specs.Prelude.{ℕ, ◌+◌, ◌==◌, ◌++◌, List, [], ◌∷◌, length, take, reverse, codes, if◌then◌else◌}
use Rattle.std.specs.Fmt.{decimal}
use Rattle.ceal_base.specs.declared.fault.Fault.{Fault}
use Rattle.ceal_base.specs.declared.fault.FaultCode.{FaultCode}
use Rattle.ceal_base.specs.declared.fault.FaultCode.TheVariants.{S1, S2, S3, S4, S5, S6, N1, N2, T1, T2, T3, T4, T5, U1}
use Rattle.ceal_base.specs.declared.fault.FaultCode.TheVariants.{U2, U3, U4, U5, U6, L1}

-- how many bytes are line feeds
unfoldable pub line_feeds : List ℕ → ℕ
line_feeds [] = 0
line_feeds (b ∷ bs) = if b == 10 then 1 + line_feeds bs else line_feeds bs

-- the bytes before the first line feed
unfoldable pub first_line : List ℕ → List ℕ
first_line [] = []
first_line (b ∷ bs) = if b == 10 then [] else b ∷ first_line bs

-- the line of what follows these bytes, the first line being 1
abbrev pub line_after : List ℕ → ℕ
line_after before = 1 + line_feeds before

-- its column, the first byte of a line having 1: one more than the bytes after the last line feed
abbrev pub column_after : List ℕ → ℕ
column_after before = 1 + length (first_line (reverse before))

-- the code of a fault, as it is printed
abbrev pub code_text : FaultCode → List ℕ
code_text S1 = codes "S1"
code_text S2 = codes "S2"
code_text S3 = codes "S3"
code_text S4 = codes "S4"
code_text S5 = codes "S5"
code_text S6 = codes "S6"
code_text N1 = codes "N1"
code_text N2 = codes "N2"
code_text T1 = codes "T1"
code_text T2 = codes "T2"
code_text T3 = codes "T3"
code_text T4 = codes "T4"
code_text T5 = codes "T5"
code_text U1 = codes "U1"
code_text U2 = codes "U2"
code_text U3 = codes "U3"
code_text U4 = codes "U4"
code_text U5 = codes "U5"
code_text U6 = codes "U6"
code_text L1 = codes "L1"

-- what a code means, as it is printed
abbrev pub meaning_text : FaultCode → List ℕ
meaning_text S1 = codes "bad character"
meaning_text S2 = codes "number too large"
meaning_text S3 = codes "unexpected token"
meaning_text S4 = codes "nesting too deep"
meaning_text S5 = codes "unexpected end"
meaning_text S6 = codes "too many items"
meaning_text N1 = codes "unknown name"
meaning_text N2 = codes "name defined twice"
meaning_text T1 = codes "kinds differ"
meaning_text T2 = codes "wrong number of arguments"
meaning_text T3 = codes "not a modifiable"
meaning_text T4 = codes "not a struct"
meaning_text T5 = codes "no such field"
meaning_text U1 = codes "field written outside its initialiser"
meaning_text U2 = codes "statement not allowed in an initialiser"
meaning_text U3 = codes "self used otherwise"
meaning_text U4 = codes "initialiser called"
meaning_text U5 = codes "alloc by a core function"
meaning_text U6 = codes "not in a loop"
meaning_text L1 = codes "too many blocks"

-- the bytes of the input before the fault
abbrev pub before_fault : List ℕ → Fault → List ℕ
before_fault input fault = take fault.span.from input

-- `fault CODE at LINE:COLUMN: MEANING`, and a line feed
abbrev pub fault_text : FaultCode → ℕ → ℕ → List ℕ
fault_text code line column =
    codes "fault " ++ code_text code ++ codes " at " ++ decimal line ++ codes ":" ++ decimal column
    ++ codes ": " ++ meaning_text code ++ codes "\n"

-- the line of a fault of this input
abbrev pub fault_line : List ℕ → Fault → List ℕ
fault_line input fault =
    fault_text fault.code (line_after (before_fault input fault)) (column_after (before_fault input fault))
