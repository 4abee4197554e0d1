-- The printed lines of the refusals.
use Rattle.std.specs.Prelude.{ℕ, List, ◌++◌, codes, decimal}
use Rattle.bsv_flow.specs.declared.refusal.Refusal.{Refusal}
use Rattle.bsv_flow.specs.declared.refusal.Refusal.TheVariants as refusal

-- `FILE:LINE:COLUMN` and the end of the line
abbrev pub place_text : List ℕ → ℕ → ℕ → List ℕ
place_text file line column = file ++ codes ":" ++ decimal line ++ codes ":" ++ decimal column ++ codes "\n"

-- a name and the end of the line
abbrev pub name_text : List ℕ → List ℕ
name_text name = name ++ codes "\n"

-- names with a blank between each two, and the end of the line
abbrev pub two_text : List ℕ → List ℕ → List ℕ
two_text first second = first ++ (codes " " ++ name_text second)

abbrev pub three_text : List ℕ → List ℕ → List ℕ → List ℕ
three_text first second third = first ++ (codes " " ++ two_text second third)

abbrev pub four_text : List ℕ → List ℕ → List ℕ → List ℕ → List ℕ
four_text first second third fourth = first ++ (codes " " ++ three_text second third fourth)

abbrev pub limit_text : List ℕ → ℕ → List ℕ
limit_text kind number = codes "refused 17 Limit " ++ (kind ++ (codes " " ++ (decimal number ++ codes "\n")))

-- the line of a refusal, with the LF at its end
unfoldable pub refusal_line : Refusal → List ℕ
refusal_line (refusal.BadByte file line column) = codes "refused 1 BadByte " ++ place_text file line column
refusal_line (refusal.OpenComment file line column) = codes "refused 2 OpenComment " ++ place_text file line column
refusal_line (refusal.BadLiteral file line column) = codes "refused 3 BadLiteral " ++ place_text file line column
refusal_line (refusal.TooLong file line column) = codes "refused 4 TooLong " ++ place_text file line column
refusal_line (refusal.Syntax file line column) = codes "refused 5 Syntax " ++ place_text file line column
refusal_line (refusal.TooDeep file line column) = codes "refused 6 TooDeep " ++ place_text file line column
refusal_line (refusal.UnknownName file line column) = codes "refused 7 UnknownName " ++ place_text file line column
refusal_line (refusal.TwiceDefined file line column) = codes "refused 8 TwiceDefined " ++ place_text file line column
refusal_line (refusal.TypeFault file line column) = codes "refused 9 TypeFault " ++ place_text file line column
refusal_line (refusal.WidthFault file line column) = codes "refused 10 WidthFault " ++ place_text file line column
refusal_line (refusal.BadAttribute file line column) = codes "refused 11 BadAttribute " ++ place_text file line column
refusal_line (refusal.NoSuchModule name) = codes "refused 12 NoSuchModule " ++ name_text name
refusal_line (refusal.StaticFault name) = codes "refused 13 StaticFault " ++ name_text name
refusal_line (refusal.Loop name) = codes "refused 14 Loop " ++ name_text name
refusal_line (refusal.Recursion name) = codes "refused 15 Recursion " ++ name_text name
refusal_line (refusal.NameTaken path) = codes "refused 16 NameTaken " ++ name_text path
refusal_line (refusal.Limit kind number) = limit_text kind number
refusal_line (refusal.InRule element part first second) = codes "refused 18 InRule " ++ four_text element part first second
refusal_line (refusal.FireWhenEnabled rule element) = codes "refused 19 FireWhenEnabled " ++ two_text rule element
refusal_line (refusal.NoImplicit rule call) = codes "refused 20 NoImplicit " ++ two_text rule call
refusal_line (refusal.WireCycle element) = codes "refused 21 WireCycle " ++ name_text element
refusal_line (refusal.ValueClash method) = codes "refused 22 ValueClash " ++ name_text method
refusal_line (refusal.ExecutionCycle attribute before after) = codes "refused 23 ExecutionCycle " ++ three_text attribute before after
refusal_line (refusal.UrgencyCycle attribute before after) = codes "refused 24 UrgencyCycle " ++ three_text attribute before after
refusal_line (refusal.MethodBehindRule method rule) = codes "refused 25 MethodBehindRule " ++ two_text method rule
refusal_line (refusal.NoSuchRule attribute name) = codes "refused 26 NoSuchRule " ++ two_text attribute name
