-- What is printed of a script that was played: the replies to its lines, the history, and the files in the end.
use Rattle.std.specs.Prelude.{ℕ, ◌+◌, List, [], ◌∷◌, ◌++◌, length, codes}
use Rattle.std.specs.Fmt.{decimal as printed}
use Rattle.live_model.specs.RowTexts.{rows_text}
use Rattle.stamp_core.specs.Texts.{text_of as stamp_text}
use Rattle.file_lines.specs.FileLines.{file_line, spaced}
use Rattle.overlay_set.specs.Sets.{Entry, Image}
use Rattle.overlay_set.specs.Machines.{Reply, Accepted, Late, HistoryFull, FilesFull, Rows}

-- Replies. `P` answers a publication and `Q` a question; the front is the length of the history.

-- the line of a script, and what it asked for
abbrev pub numbered : ℕ → List ℕ → List ℕ
numbered line verb = printed line ++ spaced verb

-- the reply to a line of a script, with its line feed; other replies print nothing
abbrev pub reply_text : ℕ → Reply → List ℕ
reply_text line (Accepted front) = numbered line (codes "P ok") ++ spaced (printed front) ++ codes "\n"
reply_text line (Late front last) = numbered line (codes "P late") ++ spaced (printed front) ++ spaced (stamp_text last) ++ codes "\n"
reply_text line (HistoryFull front) = numbered line (codes "P history-full") ++ spaced (printed front) ++ codes "\n"
reply_text line (FilesFull front) = numbered line (codes "P files-full") ++ spaced (printed front) ++ codes "\n"
reply_text line (Rows front rows) = numbered line (codes "Q") ++ spaced (printed front) ++ spaced (printed (length rows)) ++ codes "\n" ++ rows_text rows
reply_text line reply = []

-- the replies to lines from this one on
abbrev pub replies_text : ℕ → List Reply → List ℕ
replies_text line [] = []
replies_text line (reply ∷ replies) = reply_text line reply ++ replies_text (line + 1) replies

-- The history.

-- a publication, with its place in the history, counted from 1, and the line of the script that published it
abbrev pub entry_text : ℕ → Entry → List ℕ
entry_text n e = printed n ++ spaced (stamp_text e.stamp) ++ spaced (printed e.tag) ++ codes "\n"

-- publications from this one on
abbrev pub entries_text : ℕ → List Entry → List ℕ
entries_text n [] = []
entries_text n (e ∷ es) = entry_text n e ++ entries_text (n + 1) es

-- how many there are, and each
abbrev pub history_text : List Entry → List ℕ
history_text history = codes "history" ++ spaced (printed (length history)) ++ codes "\n" ++ entries_text 1 history

-- The files.

-- the lines of files
abbrev pub file_lines : List Image → List ℕ
file_lines [] = []
file_lines (i ∷ is) = file_line i.head (length i.overlay.marks) (length i.overlay.records) ++ file_lines is

-- how many there are, and each
abbrev pub files_text : List Image → List ℕ
files_text files = codes "files" ++ spaced (printed (length files)) ++ codes "\n" ++ file_lines files

-- the replies, then the history, then the files
abbrev pub session_text : List Reply → List Entry → List Image → List ℕ
session_text replies history files = replies_text 1 replies ++ history_text history ++ files_text files
