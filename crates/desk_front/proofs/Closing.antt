-- What serving comes to, from what answers.
use Rattle.std.proofs.Common.{◌≡◌, ◌≢◌, ℕ, ◌≤◌, List, [], Option, length, refl}
use Rattle.std.specs.Io.KnownBytes.{Consumes}
use Rattle.desk_http.specs.Rest.{Message}
use Rattle.desk_front.specs.Served.{Serves, ServedWhole, stream_limit}
use Rattle.desk_front.specs.Service.{Replies}
use Rattle.desk_front.specs.declared.served.Served.{Served}
use Rattle.desk_front.specs.declared.served.Served.TheVariants as served

whole_weaker : (P Q : List Message → List ℕ → Type 0) (how : Served) (bytes : List ℕ) (left before after : Option (List ℕ)) → ((ms : List Message) (said : List ℕ) → P ms said → Q ms said)
    → ServedWhole P how bytes left before after → ServedWhole Q how bytes left before after
whole_weaker P Q how bytes left before after weaker x = record {
  requests = x.requests;
  end = x.end;
  said = x.said;
  stream = x.stream;
  answered = weaker x.requests x.said x.answered;
  written = x.written;
  ends = x.ends;
}

pub serves_weaker : (P Q : List Message → List ℕ → Type 0) (how : Served) (bytes : List ℕ) (left before after : Option (List ℕ)) → ((ms : List Message) (said : List ℕ) → P ms said → Q ms said)
    → Serves P how bytes left before after → Serves Q how bytes left before after
serves_weaker P Q served.Ended bytes left before after weaker x = whole_weaker P Q served.Ended bytes left before after weaker x
serves_weaker P Q served.Cut bytes left before after weaker x = whole_weaker P Q served.Cut bytes left before after weaker x
serves_weaker P Q served.TooLong bytes left before after weaker x = whole_weaker P Q served.TooLong bytes left before after weaker x
serves_weaker P Q served.LinkFault bytes left before after weaker x = record {
  requests = x.requests;
  said = x.said;
  answered = weaker x.requests x.said x.answered;
  written = x.written;
}
serves_weaker P Q served.OutOfMemory bytes left before after weaker x = absurd x

-- however it ends, some requests were answered
pub replied : {A : Type 0} (R : A → Message → List ℕ → A → Type 0) (old new : A) (how : Served) (unread now before after : Option (List ℕ))
    → (how ≢ served.OutOfMemory → (bytes : List ℕ) × Consumes unread now bytes × (length bytes ≤ stream_limit)
    × Serves (λ requests said. Replies R old requests said new) how bytes now before after)
    → (how ≡ served.OutOfMemory → new ≡ old) → (ms : List Message) × (said : List ℕ) × Replies R old ms said new
replied R old new served.Ended unread now before after x same = let y = (x (λ e. cc)).3 in (y.requests, y.said, y.answered)
replied R old new served.Cut unread now before after x same = let y = (x (λ e. cc)).3 in (y.requests, y.said, y.answered)
replied R old new served.TooLong unread now before after x same = let y = (x (λ e. cc)).3 in (y.requests, y.said, y.answered)
replied R old new served.LinkFault unread now before after x same = let y = (x (λ e. cc)).3 in (y.requests, y.said, y.answered)
replied R old new served.OutOfMemory unread now before after x same = ([], [], ([], same refl, refl))
