-- Pushes in a row.
use Rattle.std.proofs.Common.{◌≡◌, ℕ, List, ◌++◌, append_assoc}

-- what the four pushes of a reply leave
pub whole_reply : (old s t u line kind crlf name digits allow close body : List ℕ) → s ≡ old ++ (line ++ kind ++ crlf ++ name) → t ≡ s ++ digits
    → u ≡ t ++ (crlf ++ allow ++ close ++ crlf) → u ++ body ≡ old ++ (line ++ ((kind ++ crlf) ++ ((name ++ digits) ++ crlf)) ++ allow ++ close ++ crlf ++ body)
whole_reply old s t u line kind crlf name digits allow close body p q r = rw (r, q, p) (simp append_assoc)
