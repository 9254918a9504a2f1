use Rattle.std.proofs.Common.{refl}
use Rattle.http_edge.specs.Requests.{request_of}
use Rattle.http_edge.proofs.RequestLemmas.{asks_same, asks_query}
use Rattle.http_edge.proofs.request.read_route.Goals as goal

pub returns-in_ok-read_dump-in-Lsif : goal.returns-in_ok-read_dump-in-Lsif
unfolding request_of
returns-in_ok-read_dump-in-Lsif c = rw c.in-Lsif.is (asks_same _ _ _ c.in_ok-read_dump-in-Lsif.ensures.asks c.asked_upload.ensures)

pub returns-in_ok-read_tags-in-Tags : goal.returns-in_ok-read_tags-in-Tags
unfolding request_of
returns-in_ok-read_tags-in-Tags c = rw c.in-Tags.is (asks_same _ _ _ c.in_ok-read_tags-in-Tags.ensures.asks c.asked_upload-in-Tags.ensures)

pub returns-in_ok-read_removal-in-Project : goal.returns-in_ok-read_removal-in-Project
unfolding request_of
returns-in_ok-read_removal-in-Project c = rw c.in-Project.is (asks_same _ _ _ (λ body. c.in_ok-read_removal-in-Project.ensures) c.asked_command.ensures)

pub returns-in_ok-read_query_at-in-At : goal.returns-in_ok-read_query_at-in-At
unfolding request_of
returns-in_ok-read_query_at-in-At c = rw c.in-At.is (asks_query _ _ _ _ c.asked_query.ensures refl c.in_ok-read_query_at-in-At.ensures)

pub returns-in_ok-read_profile_query-in-Profile : goal.returns-in_ok-read_profile_query-in-Profile
unfolding request_of
returns-in_ok-read_profile_query-in-Profile c = rw c.in-Profile.is (asks_query _ _ _ _ c.asked_query-in-Profile.ensures refl c.in_ok-read_profile_query-in-Profile.ensures)

pub returns-in_ok-read_tags_query-in-Names : goal.returns-in_ok-read_tags_query-in-Names
unfolding request_of
returns-in_ok-read_tags_query-in-Names c = rw c.in-Names.is (asks_query _ _ _ _ c.asked_query-in-Names.ensures refl c.in_ok-read_tags_query-in-Names.ensures)

pub returns-in-Projects : goal.returns-in-Projects
unfolding request_of
returns-in-Projects c = rw c.in-Projects.is c.asked_query-in-Projects.ensures
