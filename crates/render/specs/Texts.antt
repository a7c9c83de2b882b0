-- What is printed of an item, and of what a session has counted.
use Rattle.std.specs.Prelude.{ℕ, List, ◌++◌, codes, decimal}
use Rattle.session.specs.declared.search.Search.{Search}
use Rattle.reply.specs.Replies.{Reply}
use Rattle.reply.specs.Texts.{reply_text}

-- an item: its number, the call, and what it answered
abbrev pub item_text : ℕ → List ℕ → Reply → List ℕ
item_text n call r = decimal n ++ (codes ". " ++ (call ++ (codes ": " ++ reply_text r)))

-- given entries, derivations and settings since the opening, and how many of the places are taken
abbrev pub counts_text : Search → ℕ → ℕ → List ℕ
counts_text s size places =
    decimal s.given ++ (codes " given, " ++ (decimal s.made.derivations ++ (codes " derivations, " ++ (decimal s.made.settings ++ (codes " settings, " ++ (decimal size ++ (codes " of " ++ (decimal places ++ codes " places"))))))))
