-- How it is told that a request asks nothing.
use Rattle.std.specs.Prelude.{ℕ, List, ◌++◌, codes}
use Rattle.desk_http.specs.declared.fixed.Fixed.TheVariants as fixed
use Rattle.desk_http.specs.declared.http_fault.HttpFault.{HttpFault}
use Rattle.desk_http.specs.declared.http_fault.HttpFault.TheVariants as fault
use Rattle.desk_http.specs.declared.http_fault.QueryKey.{QueryKey}
use Rattle.desk_http.specs.declared.http_fault.QueryKey.TheVariants as key
use Rattle.desk_http.specs.Reply.{refusal_word}

-- the word for a key of a query
abbrev pub key_word : QueryKey → List ℕ
key_word key.Kind = codes "kind"
key_word key.Day = codes "day"
key_word key.Other = codes "other"

-- the words of a fault: those of the fixed refusal where it is one
abbrev pub http_fault_words : HttpFault → List ℕ
http_fault_words fault.NoRoute = refusal_word fixed.NoRoute
http_fault_words (fault.WrongMethod allow) = refusal_word (fixed.WrongMethod allow)
http_fault_words (fault.BadQuery key) = codes "bad-query " ++ key_word key
http_fault_words fault.OutOfMemory = refusal_word fixed.Memory
