-- The names of the language and its keywords: which texts are a Lower or an Upper name (Bluespec reference
-- guide, "Identifiers"). The keywords are those of the grammar and those that it reserves and does not use
-- (those of the guide, and the remaining ones of IEEE 1364-2005, annex B).
use Rattle.std.specs.Prelude.{ℕ, Bool, true, false, not, ◌&&◌, ◌||◌, ◌==◌, if◌then◌else◌, List, [], ◌∷◌, codes}
use Rattle.std.specs.List.{list_all}
use Rattle.std.specs.Char.{is_ascii_alphabetic, is_ascii_alphanumeric, is_ascii_uppercase}
use Rattle.std.specs.Str.{bytes_eq}

-- the keywords that are in a production
unfoldable pub grammar_words : List (List ℕ)
grammar_words =
    codes "package" ∷ codes "endpackage" ∷ codes "import" ∷ codes "typedef" ∷ codes "enum" ∷
    codes "struct" ∷ codes "deriving" ∷ codes "interface" ∷ codes "endinterface" ∷ codes "method" ∷
    codes "endmethod" ∷ codes "function" ∷ codes "endfunction" ∷ codes "module" ∷ codes "endmodule" ∷
    codes "rule" ∷ codes "endrule" ∷ codes "let" ∷ codes "return" ∷ codes "if" ∷ codes "else" ∷
    codes "case" ∷ codes "matches" ∷ codes "tagged" ∷ codes "default" ∷ codes "endcase" ∷ codes "for" ∷
    codes "begin" ∷ codes "end" ∷ codes "noAction" ∷ codes "int" ∷ []

-- the keywords that are in none
unfoldable pub reserved_words : List (List ℕ)
reserved_words =
    codes "action" ∷ codes "endaction" ∷ codes "actionvalue" ∷ codes "endactionvalue" ∷ codes "rules" ∷
    codes "endrules" ∷ codes "seq" ∷ codes "endseq" ∷ codes "par" ∷ codes "endpar" ∷ codes "typeclass" ∷
    codes "endtypeclass" ∷ codes "endinstance" ∷ codes "provisos" ∷ codes "union" ∷ codes "export" ∷
    codes "while" ∷ codes "when" ∷ codes "type" ∷ codes "always" ∷ codes "and" ∷ codes "assign" ∷
    codes "automatic" ∷ codes "buf" ∷ codes "bufif0" ∷ codes "bufif1" ∷ codes "casex" ∷ codes "casez" ∷
    codes "cell" ∷ codes "cmos" ∷ codes "config" ∷ codes "deassign" ∷ codes "defparam" ∷ codes "design" ∷
    codes "disable" ∷ codes "edge" ∷ codes "endconfig" ∷ codes "endgenerate" ∷ codes "endprimitive" ∷
    codes "endspecify" ∷ codes "endtable" ∷ codes "endtask" ∷ codes "event" ∷ codes "force" ∷ codes "forever" ∷
    codes "fork" ∷ codes "generate" ∷ codes "genvar" ∷ codes "highz0" ∷ codes "highz1" ∷ codes "ifnone" ∷
    codes "incdir" ∷ codes "include" ∷ codes "initial" ∷ codes "inout" ∷ codes "input" ∷ codes "instance" ∷
    codes "integer" ∷ codes "join" ∷ codes "large" ∷ codes "liblist" ∷ codes "library" ∷ codes "localparam" ∷
    codes "macromodule" ∷ codes "medium" ∷ codes "nand" ∷ codes "negedge" ∷ codes "nmos" ∷ codes "nor" ∷
    codes "noshowcancelled" ∷ codes "not" ∷ codes "notif0" ∷ codes "notif1" ∷ codes "or" ∷ codes "output" ∷
    codes "parameter" ∷ codes "pmos" ∷ codes "posedge" ∷ codes "primitive" ∷ codes "pull0" ∷ codes "pull1" ∷
    codes "pulldown" ∷ codes "pullup" ∷ codes "pulsestyle_ondetect" ∷ codes "pulsestyle_onevent" ∷
    codes "rcmos" ∷ codes "real" ∷ codes "realtime" ∷ codes "reg" ∷ codes "release" ∷ codes "repeat" ∷
    codes "rnmos" ∷ codes "rpmos" ∷ codes "rtran" ∷ codes "rtranif0" ∷ codes "rtranif1" ∷ codes "scalared" ∷
    codes "showcancelled" ∷ codes "signed" ∷ codes "small" ∷ codes "specify" ∷ codes "specparam" ∷
    codes "strong0" ∷ codes "strong1" ∷ codes "supply0" ∷ codes "supply1" ∷ codes "table" ∷ codes "task" ∷
    codes "time" ∷ codes "tran" ∷ codes "tranif0" ∷ codes "tranif1" ∷ codes "tri" ∷ codes "tri0" ∷
    codes "tri1" ∷ codes "triand" ∷ codes "trior" ∷ codes "trireg" ∷ codes "unsigned" ∷ codes "use" ∷
    codes "uwire" ∷ codes "vectored" ∷ codes "wait" ∷ codes "wand" ∷ codes "weak0" ∷ codes "weak1" ∷
    codes "wire" ∷ codes "wor" ∷ codes "xnor" ∷ codes "xor" ∷ []

-- whether a text is one of the words
abbrev pub is_listed : List (List ℕ) → List ℕ → Bool
is_listed [] text = false
is_listed (entry ∷ entries) text = if bytes_eq entry text then true else is_listed entries text

unfoldable pub is_keyword : List ℕ → Bool
is_keyword text = is_listed grammar_words text || is_listed reserved_words text

-- a letter or `_`
abbrev pub begins_name : ℕ → Bool
begins_name b = is_ascii_alphabetic b || b == 95

-- a letter, a digit or `_`
abbrev pub is_word : ℕ → Bool
is_word b = is_ascii_alphanumeric b || b == 95

-- a letter or `_`, and then letters, digits and `_`
abbrev pub is_name : List ℕ → Bool
is_name [] = false
is_name (b ∷ bytes) = begins_name b && list_all is_word bytes

-- whether a text begins with a capital letter
abbrev pub is_capital : List ℕ → Bool
is_capital [] = false
is_capital (b ∷ bytes) = is_ascii_uppercase b

-- a name that begins with a small letter or `_`, and is no keyword
unfoldable pub is_lower : List ℕ → Bool
is_lower text = is_name text && not (is_capital text) && not (is_keyword text)

-- a name that begins with a capital letter
unfoldable pub is_upper : List ℕ → Bool
is_upper text = is_name text && is_capital text && not (is_keyword text)
