-- The number of a refusal in documents 01 and 02, and the word of an image that it shows. Assumes nothing.
use Rattle.std.specs.Prelude.{ℕ, eqb}
use Rattle.lists.specs.Choice.{◌if◌else◌}
use Rattle.rules.specs.declared.refusal.Refusal.{Refusal}

abbrev pub code_of : Refusal → ℕ
code_of Refusal.Snakes = 1
code_of Refusal.LengthZero = 2
code_of Refusal.LeadZero = 3
code_of Refusal.LeadNotTwo = 4
code_of Refusal.Grid = 5
code_of Refusal.FoodArea = 6
code_of Refusal.Chain = 7
code_of Refusal.Product = 8
code_of Refusal.Untraceable = 9
code_of Refusal.CellOutside = 10
code_of Refusal.CellTaken = 11
code_of Refusal.FoodFree = 12
code_of Refusal.OtherSetting = 21
code_of Refusal.FoodDue = 22
code_of Refusal.NoneDue = 23
code_of Refusal.ActionCount = 24
code_of Refusal.Action = 25
code_of Refusal.Agent = 26
code_of Refusal.Outcome = 27
code_of Refusal.Count = 28
code_of Refusal.Buffer = 29
code_of Refusal.List = 30
code_of Refusal.Weight = 31
code_of Refusal.Line = 32
code_of Refusal.Over = 33
code_of Refusal.Contents = 40
code_of Refusal.Page = 41
code_of Refusal.Pages = 42
code_of (Refusal.CutShort at) = 50
code_of (Refusal.OutOfRange at) = 51
code_of (Refusal.Start at) = 52
code_of (Refusal.Total at) = 53
code_of (Refusal.CellBeyond at) = 54
code_of (Refusal.CellTwice at) = 55
code_of (Refusal.FoodOrder at) = 56
code_of Refusal.UnitCount = 80
code_of Refusal.UnitNumber = 81

-- 'the first word that shows the fault', counted from 0
abbrev pub word_shown : Refusal → ℕ
word_shown Refusal.Snakes = 0
word_shown Refusal.LengthZero = 0
word_shown Refusal.LeadZero = 0
word_shown Refusal.LeadNotTwo = 0
word_shown Refusal.Grid = 0
word_shown Refusal.FoodArea = 0
word_shown Refusal.Chain = 0
word_shown Refusal.Product = 0
word_shown Refusal.Untraceable = 0
word_shown Refusal.CellOutside = 0
word_shown Refusal.CellTaken = 0
word_shown Refusal.FoodFree = 0
word_shown Refusal.OtherSetting = 0
word_shown Refusal.FoodDue = 0
word_shown Refusal.NoneDue = 0
word_shown Refusal.ActionCount = 0
word_shown Refusal.Action = 0
word_shown Refusal.Agent = 0
word_shown Refusal.Outcome = 0
word_shown Refusal.Count = 0
word_shown Refusal.Buffer = 0
word_shown Refusal.List = 0
word_shown Refusal.Weight = 0
word_shown Refusal.Line = 0
word_shown Refusal.Over = 0
word_shown Refusal.Contents = 0
word_shown Refusal.Page = 0
word_shown Refusal.Pages = 0
word_shown (Refusal.CutShort at) = at
word_shown (Refusal.OutOfRange at) = at
word_shown (Refusal.Start at) = at
word_shown (Refusal.Total at) = at
word_shown (Refusal.CellBeyond at) = at
word_shown (Refusal.CellTwice at) = at
word_shown (Refusal.FoodOrder at) = at
word_shown Refusal.UnitCount = 0
word_shown Refusal.UnitNumber = 0

-- the refusal of a number and a word; of a number that none has, the last
abbrev pub refusal_by : ℕ → ℕ → Refusal
refusal_by n at =
    Refusal.Snakes if eqb n 1 else
    Refusal.LengthZero if eqb n 2 else
    Refusal.LeadZero if eqb n 3 else
    Refusal.LeadNotTwo if eqb n 4 else
    Refusal.Grid if eqb n 5 else
    Refusal.FoodArea if eqb n 6 else
    Refusal.Chain if eqb n 7 else
    Refusal.Product if eqb n 8 else
    Refusal.Untraceable if eqb n 9 else
    Refusal.CellOutside if eqb n 10 else
    Refusal.CellTaken if eqb n 11 else
    Refusal.FoodFree if eqb n 12 else
    Refusal.OtherSetting if eqb n 21 else
    Refusal.FoodDue if eqb n 22 else
    Refusal.NoneDue if eqb n 23 else
    Refusal.ActionCount if eqb n 24 else
    Refusal.Action if eqb n 25 else
    Refusal.Agent if eqb n 26 else
    Refusal.Outcome if eqb n 27 else
    Refusal.Count if eqb n 28 else
    Refusal.Buffer if eqb n 29 else
    Refusal.List if eqb n 30 else
    Refusal.Weight if eqb n 31 else
    Refusal.Line if eqb n 32 else
    Refusal.Over if eqb n 33 else
    Refusal.Contents if eqb n 40 else
    Refusal.Page if eqb n 41 else
    Refusal.Pages if eqb n 42 else
    Refusal.CutShort at if eqb n 50 else
    Refusal.OutOfRange at if eqb n 51 else
    Refusal.Start at if eqb n 52 else
    Refusal.Total at if eqb n 53 else
    Refusal.CellBeyond at if eqb n 54 else
    Refusal.CellTwice at if eqb n 55 else
    Refusal.FoodOrder at if eqb n 56 else
    Refusal.UnitCount if eqb n 80 else
    Refusal.UnitNumber
