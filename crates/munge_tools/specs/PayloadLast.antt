-- What is printed last of a reply in which no rule was broken.
use Rattle.std.specs.Prelude.{◌≡◌, ℕ, List, ◌++◌, Some}
use Rattle.wire_msg.specs.declared.message.Content.{Content}
use Rattle.wire_msg.specs.declared.message.DecodeSaid.{DecodeSaid}
use Rattle.munge_tools.specs.Printed.{printed_text}

-- the status is 0, there is a content, and its payload is printed last
pub record PrintsPayloadLast (said : DecodeSaid) : Type 0 where
  pub status : said.status ≡ 0
  pub content : Content
  pub shown : said.content ≡ Some content
  pub front : List ℕ
  pub last : printed_text said ≡ front ++ content.payload
